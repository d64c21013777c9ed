-- The reasons against the first powers, and the answers that end the search.
use Rattle.std.proofs.Common.{ℕ, ℤ, List, [], ◌∷◌, ◌++◌, ◌≡◌, ◌+◌, ◌<◌, ◌≤◌, sym, ◌∙◌, ap, subst, length, map}
use Rattle.std.proofs.Common.{get_or, arith, below_more}
use Rattle.std.specs.List.{repeat}
use Rattle.std.proofs.lemmas.List.{length-append, map-append, get_or_append_left}
use Rattle.std.proofs.Math.Seq.{get_or-append_seam}
use Rattle.tri_atlas.specs.Maps.{path_map}
use Rattle.tri_atlas.specs.Moves.{Move}
use Rattle.free_groupoid.specs.GroupoidMaps.{GroupoidMap}
use Rattle.free_groupoid.specs.InnerAnswers.{AreInnerPaths, IsFirstMoved}
use Rattle.free_groupoid.specs.Periodic.{AreInnerWalks, IsFirstPast, IsFirstTest, IsWithin}
use Rattle.free_groupoid.specs.Walks.{DualWalk, walk_of_letters}
use Rattle.periodic_cert.specs.PowerAnswers.{AreAllRefuted, AreReasons, IsCapped, IsOrder}
use Rattle.periodic_cert.specs.PowerAnswers.{StartInOrder, StartWithLetters, letters_of_walks}

-- ---- reasons

-- each of the first n powers is refuted by the walk with its number
pub record AreRefuted (triples : List (List ℤ)) (moves : List Move) (n : ℕ) (reasons : List DualWalk) : Type 0 where
  pub counted : length (letters_of_walks reasons) ≡ n
  pub refuted : AreReasons triples moves (letters_of_walks reasons)
  pub starts : StartWithLetters triples reasons

more_reasons : (triples : List (List ℤ)) (moves : List Move) (words : List (List ℤ)) (w : List ℤ)
    → AreReasons triples moves words → IsFirstTest triples (path_map (repeat (length words + 1) moves)) w
    → AreReasons triples moves (words ++ (w ∷ []))
more_reasons triples moves words w known new j inside =
    let IsRefuted = λ (i : ℕ) (v : List ℤ). IsFirstTest triples (path_map (repeat (i + 1) moves)) v in
    let within : j < length words + 1 = omega (arith, length-append words (w ∷ [])) in
    below_more (λ i. IsRefuted i (get_or (words ++ (w ∷ [])) i [])) (length words)
    (λ i h. subst (IsRefuted i) (sym (get_or_append_left words (w ∷ []) [] i h)) (known i h))
    (subst (IsRefuted (length words)) (sym (get_or-append_seam words w [] [])) new)
    j within

-- a walk that starts with its first letter
abbrev StartsWithLetter : List (List ℤ) → DualWalk → Type 0
StartsWithLetter triples w = w ≡ walk_of_letters triples w.letters

more_starts : (triples : List (List ℤ)) (walks : List DualWalk) (w : DualWalk) → StartWithLetters triples walks
    → StartsWithLetter triples w → StartWithLetters triples (walks ++ (w ∷ []))
more_starts triples walks w known new =
    let f = walk_of_letters triples in
    ap (λ (vs : List DualWalk). vs ++ (w ∷ [])) known
    ∙ ap (λ (v : DualWalk). map f (letters_of_walks walks) ++ (v ∷ [])) new
    ∙ sym (map-append f (letters_of_walks walks) (w.letters ∷ []))
    ∙ ap (map f) (sym (map-append (λ (v : DualWalk). v.letters) walks (w ∷ [])))

-- one more power is refuted, by a test walk that is moved
pub refuted_more : (triples : List (List ℤ)) (moves : List Move) (n : ℕ) (before reasons : List DualWalk) (w : DualWalk)
    (f : GroupoidMap) → AreRefuted triples moves n before → reasons ≡ before ++ (w ∷ []) → IsFirstMoved triples f w
    → IsFirstTest triples (path_map (repeat (n + 1) moves)) w.letters
    → AreRefuted triples moves (n + 1) reasons
refuted_more triples moves n before reasons w f known pushed moved new =
    let words = letters_of_walks before in
    let own : StartsWithLetter triples w = moved.walk
    ∙ ap (walk_of_letters triples) (sym (ap (λ (v : DualWalk). v.letters) moved.walk)) in
    let all : letters_of_walks (before ++ (w ∷ [])) ≡ words ++ (w.letters ∷ [])
    = map-append (λ (v : DualWalk). v.letters) before (w ∷ []) in
    subst (AreRefuted triples moves (n + 1)) (sym pushed) (record {
      counted = ap length all ∙ length-append words (w.letters ∷ []) ∙ ap (λ (i : ℕ). i + 1) known.counted;
      refuted = subst (AreReasons triples moves) (sym all)
          (more_reasons triples moves words w.letters known.refuted
          (subst (λ (i : ℕ). IsFirstTest triples (path_map (repeat (i + 1) moves)) w.letters) (sym known.counted) new));
      starts = more_starts triples before w known.starts own;
    })

-- ---- answers

module _ (triples : List (List ℤ)) (moves : List Move) (limit cap n : ℕ) (reasons : List DualWalk)
    (known : AreRefuted triples moves n reasons) where
  one_before : length (letters_of_walks reasons) + 1 ≡ n + 1
  one_before = ap (λ (i : ℕ). i + 1) known.counted

  module _ (within : n + 1 ≤ limit) where
    pub order_found : (f : GroupoidMap) (paths : List DualWalk) → IsWithin triples (repeat (n + 1) moves) cap
        → AreInnerWalks triples (repeat (n + 1) moves) (letters_of_walks paths)
        → AreInnerPaths triples f paths
        → IsOrder triples moves limit cap (n + 1) (letters_of_walks paths) (letters_of_walks reasons)
        × StartInOrder paths × StartWithLetters triples reasons
    order_found f paths few inner are_paths = (
      record {
        within_limit = within;
        one_reason_each = one_before;
        refuted = known.refuted;
        within_cap = few;
        inner = inner;
      },
      (λ t h. are_paths.starts t (subst (λ (i : ℕ). t < i) are_paths.one_per_triangle h)),
      known.starts,
    )

    pub cap_passed : (letters : ℕ) → IsWithin triples (repeat n moves) cap
        → (made : ℕ) × IsFirstPast triples (repeat (n + 1) moves) cap made letters
        → IsCapped triples moves limit cap (n + 1) letters (letters_of_walks reasons) × StartWithLetters triples reasons
    cap_passed letters few (made, past) = (
      record {
        within_limit = within;
        one_reason_each = one_before;
        refuted = known.refuted;
        before = subst (λ (i : ℕ). IsWithin triples (repeat i moves) cap) (sym known.counted) few;
        made = made;
        past = past;
      },
      known.starts,
    )

  pub all_refuted : n ≡ limit → IsWithin triples (repeat n moves) cap
      → AreAllRefuted triples moves limit cap (letters_of_walks reasons) × StartWithLetters triples reasons
  all_refuted full few = (
    record {
      one_reason_each = known.counted ∙ full;
      refuted = known.refuted;
      within_cap = subst (λ (i : ℕ). IsWithin triples (repeat i moves) cap) full few;
    },
    known.starts,
  )
