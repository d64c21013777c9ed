-- The best edge among the first ones.
use Rattle.std.specs.Prelude.{◌≡◌, ◌<◌, ◌≤◌, ◌+◌, ℕ, ℤ, pos, List, Option, None, Some, sum}
use Rattle.std.specs.Prelude.{length, slice_index}
use Rattle.ideal_tri.specs.Flips.{flipped}
use Rattle.ideal_tri.specs.Labels.{inverse}
use Rattle.ideal_tri.specs.Triangulations.{next, previous}
use Rattle.ideal_tri.specs.Vectors.{IsMulticurve}
use Rattle.tri_atlas.specs.MovedVectors.{greater_sum, flipped_number}
use Rattle.curve_shorten.specs.Descents.{total_flipped, vector_flipped}
use Rattle.tri_atlas.specs.FlipPaths.{IsFlippableEdge}
use Rattle.curve_shorten.specs.declared.rounds.Lowest.{Lowest}

-- where there is an edge, its flip lowers the total to this one, and no edge before it as far
abbrev pub IsFound : List (List ℤ) → List ℕ → Option ℕ → ℕ → Type 0
IsFound triples w None total = total ≡ sum w
IsFound triples w (Some e) total =
    IsFlippableEdge triples e × (total ≡ total_flipped triples w e) × (total < sum w)
    × ((f : ℕ) → f < e → IsFlippableEdge triples f → total < total_flipped triples w f)

-- and the flip of none of the first n edges lowers the total further
pub record IsBestBefore (triples : List (List ℤ)) (w : List ℕ) (n : ℕ) (b : Lowest) : Type 0 where
  pub found : IsFound triples w b.edge b.total
  pub most : (f : ℕ) → f < n → IsFlippableEdge triples f → b.total ≤ total_flipped triples w f

-- ---- one flip

-- the greater sum of opposite sides of the quadrilateral of an edge, and its number after the flip
abbrev pub sum_beside : List (List ℤ) → List ℕ → ℕ → ℕ
sum_beside triples w e =
    greater_sum w (next triples (pos e)) (previous triples (pos e)) (next triples (inverse (pos e)))
    (previous triples (inverse (pos e)))

abbrev pub number_flipped : List (List ℤ) → List ℕ → ℕ → ℕ
number_flipped triples w e =
    flipped_number w (pos e) (next triples (pos e)) (previous triples (pos e))
    (next triples (inverse (pos e))) (previous triples (inverse (pos e)))

-- the numbers after the flip are a multicurve's, and with the old number and the new one the totals
-- are the same
pub record IsFlipOf (triples : List (List ℤ)) (w : List ℕ) (e : ℕ) : Type 0 where
  pub within : e < length w
  pub part : slice_index w e ≤ sum w
  pub enough : slice_index w e ≤ sum_beside triples w e
  pub total : total_flipped triples w e + slice_index w e ≡ sum w + number_flipped triples w e
  pub multicurve : IsMulticurve (flipped triples (pos e)) (vector_flipped triples w e)
