-- The first move after which the map of a path has more letters than a cap.
--
-- Without moves the map has one letter for each edge. So where there are no more edges than the cap says and the map of
-- the whole path has more letters, there is a move after which it has more; and among the moves up to any place one
-- finds the first, or none.
use Rattle.std.proofs.Common.{◌≡◌, ◌<◌, ◌≤◌, ◌⊎◌, inl, inr, ◌+◌, ℕ, zero, suc, ℤ, List, [], ◌∷◌, length, take}
use Rattle.std.proofs.Common.{refl, sym, subst, arith}
use Rattle.std.proofs.lemmas.Bool.{cases_lt}
use Rattle.std.proofs.lemmas.List.{length-take-le, take-take, take_all}
use Rattle.ideal_tri.specs.Triangulations.{edge_count}
use Rattle.tri_atlas.specs.Maps.{identity, letters_below, letters_of, path_map}
use Rattle.tri_atlas.specs.Moves.{Move}
use Rattle.free_groupoid.specs.MapRefusals.{told}
use Rattle.free_groupoid.specs.Periodic.{IsFirstPast, IsWithin}

-- ---- no moves

-- the map that moves nothing has one letter for each edge
letters_still : (n : ℕ) → letters_below n identity ≡ n
letters_still zero = refl
letters_still (suc n) = omega (arith, letters_still n)

-- where the map is within the cap after each move, it is so after all of them
last_within : (triples : List (List ℤ)) (moves : List Move) (cap : ℕ) → edge_count triples ≤ cap
    → ((j : ℕ) → j < length moves → letters_of triples (path_map (take (j + 1) moves)) ≤ cap)
    → letters_of triples (path_map moves) ≤ cap
last_within triples [] cap few within = omega (arith, few, letters_still (edge_count triples))
last_within triples (m ∷ moves) cap few within =
    subst (λ (ms : List Move). letters_of triples (path_map ms) ≤ cap)
    (take_all (length moves + 1) (m ∷ moves) (omega arith)) (within (length moves) (omega arith))

-- ---- the first moves

module _ (triples : List (List ℤ)) (moves : List Move) (cap : ℕ) where
  -- the letters after so many moves
  abbrev letters_after : ℕ → ℕ
  letters_after n = letters_of triples (path_map (take n moves))

  -- they are within the cap after each of the first moves
  abbrev AreWithin : ℕ → Type 0
  AreWithin n = (j : ℕ) → j < n → letters_after (j + 1) ≤ cap

  -- there is a first move after which they aren't
  abbrev pub HasFirstPast : Type 0
  HasFirstPast = (letters : ℕ) × (made : ℕ) × IsFirstPast triples moves cap made letters

  are_within : (n : ℕ) → n ≤ length moves → AreWithin n → IsWithin triples (take n moves) cap
  are_within n few within j more =
      let inside : j < n = subst (λ (l : ℕ). j < l) (length-take-le n moves few) more in
      subst (λ (ms : List Move). letters_of triples (path_map ms) ≤ cap)
      (sym (take-take (j + 1) n moves (omega (arith, inside)))) (within j inside)

  first_here : (n : ℕ) → n < length moves → AreWithin n → cap < letters_after (n + 1) → HasFirstPast
  first_here n more within past = (
    told (letters_after (n + 1)),
    n,
    record {
      more_moves = more;
      before = are_within n (omega (arith, more)) within;
      past = past;
      number = refl;
    },
  )

  one_more : (n : ℕ) → AreWithin n → letters_after (n + 1) ≤ cap → AreWithin (suc n)
  one_more n within next j below = elim (cases_lt j n) [
    | inl before ↦ within j before
    | inr not_before ↦
        let last : n ≡ j = omega (arith, below, not_before) in subst (λ (i : ℕ). letters_after (i + 1) ≤ cap) last next
  ]

  -- none of the first moves, or the first of them
  none_or_first : (n : ℕ) → n ≤ length moves → AreWithin n ⊎ HasFirstPast
  none_or_first zero few = inl (λ j below. absurd (omega (arith, below)))
  none_or_first (suc n) few = elim (none_or_first n (omega (arith, few))) [
    | inr first ↦ inr first
    | inl within ↦ elim (cases_lt cap (letters_after (n + 1))) [
      | inl past ↦ inr (first_here n (omega (arith, few)) within past)
      | inr not_past ↦ inl (one_more n within not_past)
    ]
  ]

  -- where the map of all moves passes the cap, there is a first
  pub first_past : edge_count triples ≤ cap → cap < letters_of triples (path_map moves) → HasFirstPast
  first_past few past = elim (none_or_first (length moves) (omega arith)) [
    | inr first ↦ first
    | inl within ↦ absurd (omega (arith, past, last_within triples moves cap few within))
  ]
