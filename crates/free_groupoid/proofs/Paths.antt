-- The loop over the moves of a path: the map after the first i of them, each within the cap, and where the rest lead.
use Rattle.std.proofs.Common.{ℕ, List, [], ◌∷◌, ◌++◌, ◌≡◌, ◌+◌, ◌<◌, ◌≤◌, refl, sym, ◌∙◌, ap, subst, length, take, drop}
use Rattle.std.proofs.Common.{get_or}
use Rattle.std.proofs.lemmas.List.{take_more, drop_more, take_all}
use Rattle.tri_atlas.specs.Arena.{Arena, MoveHandle, IsMoveIn, source_of, target_of}
use Rattle.tri_atlas.specs.Paths.{Lead}
use Rattle.free_groupoid.specs.GroupoidMaps.{GroupoidMap, IsMapIn, letters_in, followed, followed_along}
use Rattle.free_groupoid.specs.MapRefusals.{StaysWithin, IsMoveRefusal, IsPathRefusal}
use Rattle.free_groupoid.specs.declared.map.MapError.{MapError}
use Rattle.free_groupoid.specs.declared.map.MapError.TheVariants.{Memory, CapPassed}

pub record IsFollowedTo (arena : Arena) (old now : GroupoidMap) (moves : List MoveHandle) (cap end i : ℕ) : Type 0 where
  pub map : now ≡ followed_along arena old (take i moves)
  pub within : StaysWithin arena old (take i moves) cap
  pub maps : IsMapIn arena now
  pub leads : Lead arena now.target (drop i moves) end

pub followed_none : (arena : Arena) (old : GroupoidMap) (moves : List MoveHandle) (cap s end : ℕ) → IsMapIn arena old
    → Lead arena s moves end → s ≡ old.target
    → IsFollowedTo arena old old moves cap end 0
followed_none arena old moves cap s end maps leads follows = record {
  map = refl;
  within = tt;
  maps = maps;
  leads = subst (λ (t : ℕ). Lead arena t moves end) follows leads;
}

-- ---- one more move

along_push : (arena : Arena) (f : GroupoidMap) (moves : List MoveHandle) (m : MoveHandle)
    → followed_along arena f (moves ++ (m ∷ [])) ≡ followed arena (followed_along arena f moves) m
along_push arena f [] m = refl
along_push arena f (n ∷ moves) m = along_push arena (followed arena f n) moves m

within_push : (arena : Arena) (f : GroupoidMap) (moves : List MoveHandle) (m : MoveHandle) (cap : ℕ)
    → StaysWithin arena f moves cap
    → letters_in (followed arena (followed_along arena f moves) m).images ≤ cap
    → StaysWithin arena f (moves ++ (m ∷ [])) cap
within_push arena f [] m cap h few = (few, tt)
within_push arena f (n ∷ moves) m cap h few = (h.0, within_push arena (followed arena f n) moves m cap h.1 few)

module _ (arena : Arena) (old now new : GroupoidMap) (moves : List MoveHandle) (cap end i : ℕ) (m : MoveHandle)
    (h : IsFollowedTo arena old now moves cap end i) (inside : i < length moves) (is_m : m ≡ get_or moves i m) where
  longer : take (i + 1) moves ≡ take i moves ++ (m ∷ [])
  longer = take_more moves i m inside ∙ ap (λ (n : MoveHandle). take i moves ++ (n ∷ [])) (sym is_m)

  pub next_lead : IsMoveIn arena m × (source_of arena m ≡ now.target)
      × Lead arena (target_of arena m) (drop (i + 1) moves) end
  next_lead =
      subst (λ (ms : List MoveHandle). Lead arena now.target ms end)
      (drop_more moves i m inside ∙ ap (λ (n : MoveHandle). n ∷ drop (i + 1) moves) (sym is_m)) h.leads

  after_next : new ≡ followed arena now m → new ≡ followed_along arena old (take (i + 1) moves)
  after_next is_new =
      is_new ∙ ap (λ (f : GroupoidMap). followed arena f m) h.map ∙ sym (along_push arena old (take i moves) m)
      ∙ ap (followed_along arena old) (sym longer)

  pub followed_more : new ≡ followed arena now m → letters_in new.images ≤ cap → IsMapIn arena new
      → IsFollowedTo arena old new moves cap end (i + 1)
  followed_more is_new few maps = record {
    map = after_next is_new;
    within = subst (λ (ms : List MoveHandle). StaysWithin arena old ms cap) (sym longer)
        (within_push arena old (take i moves) m cap h.within
        (subst (λ (f : GroupoidMap). letters_in f.images ≤ cap) (is_new
        ∙ ap (λ (f : GroupoidMap). followed arena f m) h.map) few));
    maps = maps;
    leads = subst (λ (f : GroupoidMap). Lead arena f.target (drop (i + 1) moves) end) (sym is_new) next_lead.2;
  }

  pub refused_there : (e : MapError) → IsMoveRefusal arena now new m cap e → IsPathRefusal arena old new moves cap e
  refused_there Memory refusal = (i, record { more = inside; within = h.within; map = refusal ∙ h.map })
  refused_there (CapPassed letters) refusal = (i, inside, h.within, after_next refusal.0, refusal.1)

-- ---- all moves

pub followed_all : (arena : Arena) (old now : GroupoidMap) (moves : List MoveHandle) (cap end i : ℕ)
    → IsFollowedTo arena old now moves cap end i
    → length moves ≤ i → (now ≡ followed_along arena old moves) × StaysWithin arena old moves cap
followed_all arena old now moves cap end i h all = (
  h.map ∙ ap (followed_along arena old) (take_all i moves all),
  subst (λ (ms : List MoveHandle). StaysWithin arena old ms cap) (take_all i moves all) h.within,
)
