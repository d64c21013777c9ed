-- Words in two parts: last letters, what stands before them, neighbours, and closed words.
use Rattle.std.proofs.Common.{ℤ, List, [], ◌∷◌, ◌++◌, ◌≡◌, ◌≢◌, refl, sym, ◌∙◌, ap, append_assoc, arith, length}
use Rattle.std.proofs.Common.{length-append}
use Rattle.std.specs.List.{All}
use Rattle.std.proofs.lemmas.List.{append-nil}
use Rattle.std.proofs.lemmas.List.Elements.{All-nil, All-cons, All-head, All-tail}
use Rattle.ideal_tri.specs.Words.{last_of, but_last, closed_up}
use Rattle.ideal_tri.specs.Peripheral.{AllNeighbours}
use Rattle.carry_map.specs.CarriedMaps.{final}

-- ---- last letters

pub last_of-append : (x : ℤ) (u v : List ℤ) → last_of x (u ++ v) ≡ last_of (last_of x u) v
last_of-append x [] v = refl
last_of-append x (y ∷ u) v = last_of-append y u v

-- the last letter of y ∷ v, where it is u and then z
pub last_read : (y : ℤ) (v u : List ℤ) (z : ℤ) → y ∷ v ≡ u ++ (z ∷ []) → last_of y v ≡ z
last_read y v u z e = ap (last_of y) e ∙ last_of-append y u (z ∷ [])

pub not_empty : (u : List ℤ) (x : ℤ) (v : List ℤ) → u ++ (x ∷ v) ≢ []
not_empty u x v e = let none : length (u ++ (x ∷ v)) ≡ 0 = ap length e in omega (arith, length-append u (x ∷ v))

-- ---- what stands before the last letter

pub joined_at : (x : ℤ) (u v : List ℤ) → but_last (x ∷ u) ++ (last_of x u ∷ v) ≡ x ∷ (u ++ v)
joined_at x [] v = refl
joined_at x (y ∷ u) v = ap (λ (z : List ℤ). x ∷ z) (joined_at y u v)

pub but_last_and_last : (x : ℤ) (u : List ℤ) → but_last (x ∷ u) ++ (last_of x u ∷ []) ≡ x ∷ u
but_last_and_last x u = joined_at x u [] ∙ ap (λ (z : List ℤ). x ∷ z) (append-nil u)

pub but_last-append : (x : ℤ) (u v : List ℤ) → but_last (x ∷ (u ++ v)) ≡ but_last (x ∷ u) ++ but_last (last_of x u ∷ v)
but_last-append x [] v = refl
but_last-append x (y ∷ u) v = ap (λ (z : List ℤ). x ∷ z) (but_last-append y u v)

pub final-ended : (w : List ℤ) (y : ℤ) → final (w ++ (y ∷ [])) ≡ y
final-ended [] y = refl
final-ended (x ∷ w) y = last_of-append x w (y ∷ [])

-- ---- what holds of all letters

module _ {X : Type 0} (P : X → Type 0) where
  pub all_left : (u v : List X) → All P (u ++ v) → All P u
  all_left [] v h = All-nil P
  all_left (x ∷ u) v h = All-cons P x u (All-head P x (u ++ v) h) (all_left u v (All-tail P x (u ++ v) h))

  pub all_right : (u v : List X) → All P (u ++ v) → All P v
  all_right [] v h = h
  all_right (x ∷ u) v h = all_right u v (All-tail P x (u ++ v) h)

pub all_last : (P : ℤ → Type 0) (x : ℤ) (u : List ℤ) → All P (x ∷ u) → P (last_of x u)
all_last P x [] h = All-head P x [] h
all_last P x (y ∷ u) h = all_last P y u (All-tail P x (y ∷ u) h)

-- ---- what holds of all neighbours

module _ (R : ℤ → ℤ → Type 0) where
  -- words joined at a letter, the last of the first and the first of the second
  pub neighbours_joined : (x : ℤ) (u v : List ℤ) → AllNeighbours R (x ∷ u) → AllNeighbours R (last_of x u ∷ v)
      → AllNeighbours R (x ∷ (u ++ v))
  neighbours_joined x [] v h k = k
  neighbours_joined x (y ∷ u) v h k = (h.0, neighbours_joined y u v h.1 k)

  pub neighbours_left : (x : ℤ) (u v : List ℤ) → AllNeighbours R (x ∷ (u ++ v)) → AllNeighbours R (x ∷ u)
  neighbours_left x [] v h = tt
  neighbours_left x (y ∷ u) v h = (h.0, neighbours_left y u v h.1)

  pub neighbours_right : (x : ℤ) (u v : List ℤ) → AllNeighbours R (x ∷ (u ++ v))
      → AllNeighbours R (last_of x u ∷ v)
  neighbours_right x [] v h = h
  neighbours_right x (y ∷ u) v h = neighbours_right y u v h.1

-- ---- closed words in two parts

-- round the word x ∷ u, y ∷ v: from x to y, and from there back to x
pub closed_parts : (x : ℤ) (u : List ℤ) (y : ℤ) (v : List ℤ)
    → closed_up ((x ∷ u) ++ (y ∷ v)) ≡ x ∷ ((u ++ (y ∷ [])) ++ (v ++ (x ∷ [])))
closed_parts x u y v =
    ap (λ (w : List ℤ). x ∷ w)
    (append_assoc u (y ∷ v) (x ∷ []) ∙ sym (append_assoc u (y ∷ []) (v ++ (x ∷ []))))
