-- Closed words that turn the same way at each triangle, read letter by letter from the last one on.
use Rattle.std.proofs.Common.{ℕ, zero, suc, ℤ, Bool, List, [], ◌∷◌, ◌++◌, ◌≡◌, ◌≢◌, ◌+◌, ◌-◌, ◌<◌}
use Rattle.std.proofs.Common.{◌≤◌, refl, sym, ◌∙◌, ap, subst, arith, length, take, get_or}
use Rattle.std.proofs.lemmas.List.{take_more, take_all}
use Rattle.ideal_tri.specs.Words.{last_of, closed_up}
use Rattle.ideal_tri.specs.WordLaws.{LetterLaws}
use Rattle.ideal_tri.specs.Peripheral.{AllNeighbours}
use Rattle.ideal_tri.specs.Triangulations.{IsLabel}
use Rattle.free_groupoid.specs.inside.Turns.{turn_of, TurnsEach}

-- ---- the last letter

last_of-take : (z : ℤ) (w : List ℤ) (i : ℕ) (d : ℤ) → i < length w → last_of z (take (i + 1) w) ≡ get_or w i d
last_of-take z w i d h = ap (last_of z) (take_more w i d h) ∙ of_push z (take i w) (get_or w i d)
  where
    of_push : (x : ℤ) (u : List ℤ) (y : ℤ) → last_of x (u ++ (y ∷ [])) ≡ y
    of_push x [] y = refl
    of_push x (x' ∷ u) y = of_push x' u y

-- ---- neighbours

module _ (R : ℤ → ℤ → Type 0) where
  neighbours_more : (z : ℤ) (w : List ℤ) (y : ℤ) → AllNeighbours R (z ∷ w) → R (last_of z w) y
      → AllNeighbours R (z ∷ (w ++ (y ∷ [])))
  neighbours_more z [] y h r = (r, tt)
  neighbours_more z (x ∷ w) y h r = (h.0, neighbours_more x w y h.1 r)

  neighbours_front : (z : ℤ) (w v : List ℤ) → AllNeighbours R (z ∷ (w ++ v)) → AllNeighbours R (z ∷ w)
  neighbours_front z [] v h = tt
  neighbours_front z (x ∷ w) v h = (h.0, neighbours_front x w v h.1)

  neighbours_end : (z : ℤ) (w : List ℤ) (y : ℤ) → AllNeighbours R (z ∷ (w ++ (y ∷ []))) → R (last_of z w) y
  neighbours_end z [] y h = h.0
  neighbours_end z (x ∷ w) y h = neighbours_end x w y h.1

  neighbours_at : (z : ℤ) (w : List ℤ) (i : ℕ) (d : ℤ) → AllNeighbours R (z ∷ w) → i < length w
      → R (last_of z (take i w)) (get_or w i d)
  neighbours_at z [] i d h l = absurd (omega arith)
  neighbours_at z (x ∷ w) zero d h l = h.0
  neighbours_at z (x ∷ w) (suc i) d h l = neighbours_at x w i d h.1 (omega arith)

  -- a closed word and its first letter once more, or its last letter in front
  closed_from_last : LetterLaws → (w : List ℤ) (z : ℤ) → w ≢ [] → z ≡ get_or w (length w - 1) z
      → AllNeighbours R (z ∷ w)
      → AllNeighbours R (closed_up w)
  closed_from_last letters [] z some is_z h = absurd (some refl)
  closed_from_last letters (x ∷ w) z some is_z h =
      neighbours_more x w x h.1 (subst (λ (y : ℤ). R y x) (letters.last x w z is_z) h.0)

  last_from_closed : LetterLaws → (w : List ℤ) (z : ℤ) → w ≢ [] → z ≡ get_or w (length w - 1) z
      → AllNeighbours R (closed_up w)
      → AllNeighbours R (z ∷ w)
  last_from_closed letters [] z some is_z h = absurd (some refl)
  last_from_closed letters (x ∷ w) z some is_z h =
      (subst (λ (y : ℤ). R y x) (sym (letters.last x w z is_z)) (neighbours_end x w x h), neighbours_front x w (x ∷ []) h)

-- ---- the loop: from the last letter z on, each of the first i letters follows the one before

pub record TurnsUpTo (triples : List (List ℤ)) (on : Bool) (w : List ℤ) (z last : ℤ) (i : ℕ) : Type 0 where
  pub neighbours : AllNeighbours (λ x y. y ≡ turn_of triples on x) (z ∷ take i w)
  pub last_is : last ≡ last_of z (take i w)
  pub label : IsLabel triples last

pub turns_none : (triples : List (List ℤ)) (on : Bool) (w : List ℤ) (z : ℤ) → IsLabel triples z
    → TurnsUpTo triples on w z z 0
turns_none triples on w z label = record { neighbours = tt; last_is = refl; label = label }

pub turns_more : (triples : List (List ℤ)) (on : Bool) (w : List ℤ) (z last y : ℤ) (i : ℕ)
    → TurnsUpTo triples on w z last i → i < length w
    → y ≡ get_or w i y → y ≡ turn_of triples on last → IsLabel triples y → TurnsUpTo triples on w z y (i + 1)
turns_more triples on w z last y i h inside is_y turn label =
    let Follows : ℤ → ℤ → Type 0 = λ x y. y ≡ turn_of triples on x in
    let longer : take (i + 1) w ≡ take i w ++ (y ∷ []) = take_more w i y inside
    ∙ ap (λ (x : ℤ). take i w ++ (x ∷ [])) (sym is_y) in
    record {
      neighbours = subst (λ (u : List ℤ). AllNeighbours Follows (z ∷ u)) (sym longer)
          (neighbours_more Follows z (take i w) y h.neighbours (turn ∙ ap (turn_of triples on) h.last_is));
      last_is = is_y ∙ sym (last_of-take z w i y inside);
      label = label;
    }

pub turns_all : LetterLaws → (triples : List (List ℤ)) (on : Bool) (w : List ℤ) (z last : ℤ) (i : ℕ)
    → TurnsUpTo triples on w z last i → length w ≤ i
    → w ≢ [] → z ≡ get_or w (length w - 1) z → TurnsEach triples on w
turns_all letters triples on w z last i h all some is_z =
    let Follows : ℤ → ℤ → Type 0 = λ x y. y ≡ turn_of triples on x in
    closed_from_last Follows letters w z some is_z (subst (λ (u : List ℤ). AllNeighbours Follows (z ∷ u)) (take_all i w all)
    h.neighbours)

pub turns_not : LetterLaws → (triples : List (List ℤ)) (on : Bool) (w : List ℤ) (z last y : ℤ) (i : ℕ)
    → TurnsUpTo triples on w z last i → i < length w
    → y ≡ get_or w i y → y ≢ turn_of triples on last → w ≢ [] → z ≡ get_or w (length w - 1) z → ¬ TurnsEach triples on w
turns_not letters triples on w z last y i h inside is_y other some is_z turns =
    let Follows : ℤ → ℤ → Type 0 = λ x y. y ≡ turn_of triples on x in
    other
    (is_y
    ∙ neighbours_at Follows z w i y (last_from_closed Follows letters w z some is_z turns) inside
    ∙ ap (turn_of triples on) (sym h.last_is))
