-- Vectors with one number per edge, and the integral multicurves among them (normal coordinates).
use Rattle.std.specs.Prelude.{◌≡◌, ◌≤◌, ◌+◌, ◌-◌, ◌/◌, ◌%◌, ℕ, ℤ, List, [], ◌∷◌, length}
use Rattle.std.specs.Prelude.{slice_index, All}
use Rattle.ideal_tri.specs.Labels.{edge_of}
use Rattle.ideal_tri.specs.Triangulations.{edge_count, next, previous}

-- the number at the edge of x
abbrev pub weight : List ℕ → ℤ → ℕ
weight w x = slice_index w (edge_of x)

-- the three numbers at a triangle have an even sum; a folded edge counts at both its sides
abbrev pub IsEven : List ℕ → List ℤ → Type 0
IsEven w (a ∷ (b ∷ (c ∷ []))) = (weight w a + weight w b + weight w c) % 2 ≡ 0
IsEven w _ = Unit {0}

-- none of the three numbers at a triangle is greater than the sum of the other two
abbrev pub HasNoLongSide : List ℕ → List ℤ → Type 0
HasNoLongSide w (a ∷ (b ∷ (c ∷ []))) =
    (weight w a ≤ weight w b + weight w c) × (weight w b ≤ weight w a + weight w c)
    × (weight w c ≤ weight w a + weight w b)
HasNoLongSide w _ = Unit {0}

-- the crossing numbers of a multicurve
pub record IsMulticurve (triples : List (List ℤ)) (w : List ℕ) : Type 0 where
  pub one_per_edge : length w ≡ edge_count triples
  pub even : All (IsEven w) triples
  pub no_long_side : All (HasNoLongSide w) triples

-- how many strands run round the corner between x and the side after it
abbrev pub corner_count : List (List ℤ) → List ℕ → ℤ → ℕ
corner_count triples w x =
    (weight w x + weight w (next triples x) - weight w (previous triples x)) / 2
