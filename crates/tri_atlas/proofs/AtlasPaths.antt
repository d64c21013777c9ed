-- Paths of an atlas: moves that lead on from each other, joined and backwards.
use Rattle.std.proofs.Common.{◌≡◌, ◌∙◌, ◌++◌, [], ◌∷◌, ℕ, Bool, true, false, List, refl, sym, ap, subst, map, reverse}
use Rattle.std.specs.List.{All}
use Rattle.std.proofs.lemmas.List.{reverse-append}
use Rattle.std.proofs.lemmas.List.Elements.{All-nil, All-cons}
use Rattle.tri_atlas.specs.Arena.{Arena, MoveHandle, IsTriIn, IsMoveIn, source_of, target_of, back}
use Rattle.tri_atlas.specs.Paths.{MovePath, Lead, IsPathIn, then_move, joined, inverse_path}

-- ---- a move and the same move backwards

pub source_of-back : (arena : Arena) (m : MoveHandle) → source_of arena (back m) ≡ target_of arena m
source_of-back arena m = by_direction m.backwards
  where
    by_direction : (b : Bool) → let way : MoveHandle = record { number = m.number; backwards = b } in
        source_of arena (back way) ≡ target_of arena way
    by_direction true = refl
    by_direction false = refl

pub target_of-back : (arena : Arena) (m : MoveHandle) → target_of arena (back m) ≡ source_of arena m
target_of-back arena m = by_direction m.backwards
  where
    by_direction : (b : Bool) → let way : MoveHandle = record { number = m.number; backwards = b } in
        target_of arena (back way) ≡ source_of arena way
    by_direction true = refl
    by_direction false = refl

-- ---- moves that lead on from each other

pub lead_in : (arena : Arena) (s t : ℕ) (moves : List MoveHandle) → Lead arena s moves t → All (IsMoveIn arena) moves
lead_in arena s t [] h = All-nil (IsMoveIn arena)
lead_in arena s t (m ∷ moves) h = All-cons (IsMoveIn arena) m moves h.0 (lead_in arena (target_of arena m) t moves h.2)

pub lead_join : (arena : Arena) (s t r : ℕ) (u v : List MoveHandle) → Lead arena s u t → Lead arena t v r
    → Lead arena s (u ++ v) r
lead_join arena s t r [] v h g = subst (λ (z : ℕ). Lead arena z v r) (sym h) g
lead_join arena s t r (m ∷ u) v h g = (h.0, h.1, lead_join arena (target_of arena m) t r u v h.2 g)

pub lead_back : (arena : Arena) (s t : ℕ) (moves : List MoveHandle) → Lead arena s moves t
    → Lead arena t (reverse (map back moves)) s
lead_back arena s t [] h = sym h
lead_back arena s t (m ∷ moves) h =
    let before : Lead arena t (reverse (map back moves)) (target_of arena m) =
    lead_back arena (target_of arena m) t moves h.2 in
    let last : Lead arena (target_of arena m) (back m ∷ []) s =
    (h.0, source_of-back arena m, target_of-back arena m ∙ h.1) in
    subst (λ (z : List MoveHandle). Lead arena t z s) (sym (reverse-append (back m ∷ []) (map back moves)))
    (lead_join arena t (target_of arena m) s (reverse (map back moves)) (back m ∷ []) before last)

-- ---- paths

pub path_equal : (s s' t t' : ℕ) (moves moves' : List MoveHandle) → s ≡ s' → t ≡ t' → moves ≡ moves'
    → ◌≡◌ {A = MovePath} (record { start = s; end = t; moves = moves })
    (record { start = s'; end = t'; moves = moves' })
path_equal s s' t t' moves moves' a b c =
    let from : ℕ → MovePath = λ z. record { start = z; end = t; moves = moves } in
    let to : ℕ → MovePath = λ z. record { start = s'; end = z; moves = moves } in
    let along : List MoveHandle → MovePath = λ z. record { start = s'; end = t'; moves = z } in
    ap from a ∙ ap to b ∙ ap along c

pub path_pushed : (arena : Arena) (path : MovePath) (m : MoveHandle) → IsPathIn arena path → IsMoveIn arena m
    → source_of arena m ≡ path.end
    → IsTriIn arena (target_of arena m) → IsPathIn arena (then_move path m (target_of arena m))
path_pushed arena path m h here follows target = record {
  start_in = h.start_in;
  end_in = target;
  moves_lead =
      lead_join arena path.start path.end (target_of arena m) path.moves (m ∷ []) h.moves_lead (here, follows, refl);
}

pub path_joined : (arena : Arena) (path other : MovePath) → other.start ≡ path.end → IsPathIn arena path
    → IsPathIn arena other
    → IsPathIn arena (joined path other)
path_joined arena path other follows h g = record {
  start_in = h.start_in;
  end_in = g.end_in;
  moves_lead = lead_join arena path.start path.end other.end path.moves other.moves h.moves_lead
      (subst (λ (z : ℕ). Lead arena z other.moves other.end) follows g.moves_lead);
}

pub path_inverse : (arena : Arena) (path : MovePath) → IsPathIn arena path → IsPathIn arena (inverse_path path)
path_inverse arena path h = record {
  start_in = h.end_in;
  end_in = h.start_in;
  moves_lead = lead_back arena path.start path.end path.moves h.moves_lead;
}
