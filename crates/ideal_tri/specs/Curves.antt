-- Closed words up to rotation and direction, and lists of them.
use Rattle.std.specs.Prelude.{◌≡◌, ℕ, ℤ, List, [], ◌∷◌, ◌++◌, Bool, ◌||◌, nat_eq, ◌⊎◌}
use Rattle.std.specs.List.{count_by, flat_map}
use Rattle.std.specs.Ordering.{int_eq}
use lib.Pointwise.{pointwise}
use Rattle.ideal_tri.specs.Labels.{edge_of}
use Rattle.ideal_tri.specs.Words.{inverse_word, IsRotation}

-- the two closed words run along one curve, in the same direction or in opposite ones
abbrev pub IsSameCurve : List ℤ → List ℤ → Type 0
IsSameCurve u v = IsRotation u v ⊎ IsRotation (inverse_word u) v

-- the two words are equal, letter by letter
abbrev pub same_word : List ℤ → List ℤ → Bool
same_word u v = pointwise int_eq u v

-- some split of front ++ rest, not before front, gives v when its parts change places
abbrev pub turns_into : List ℤ → List ℤ → List ℤ → Bool
turns_into front [] v = same_word front v
turns_into front (x ∷ rest) v =
    same_word ((x ∷ rest) ++ front) v || turns_into (front ++ (x ∷ [])) rest v

-- the test of IsRotation
abbrev pub is_rotation : List ℤ → List ℤ → Bool
is_rotation u v = turns_into [] u v

-- the test of IsSameCurve
abbrev pub is_same_curve : List ℤ → List ℤ → Bool
is_same_curve u v = is_rotation u v || is_rotation (inverse_word u) v

-- the two lists hold the same closed words up to order, rotation and direction
pub record IsSameCurves (us vs : List (List ℤ)) : Type 0 where
  pub counts : (c : List ℤ) → count_by (is_same_curve c) us ≡ count_by (is_same_curve c) vs

-- how often closed words cross an edge, in either direction
abbrev pub crossings : ℕ → List (List ℤ) → ℕ
crossings e words = count_by (λ x. nat_eq (edge_of x) e) (flat_map (λ w. w) words)
