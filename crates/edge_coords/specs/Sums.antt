-- Sums and differences of vectors, edge by edge.
use Rattle.std.specs.Prelude.{◌≡◌, ◌<◌, ◌≤◌, ◌+◌, ◌-◌, ℕ, ℤ, List, length, map, slice_index}
use Rattle.std.specs.List.{range_with_len}
use Rattle.ideal_tri.specs.Vectors.{IsMulticurve}
use Rattle.edge_coords.specs.declared.coords.TheConstants.{COORDINATE_LIMIT}
use Rattle.edge_coords.specs.declared.moves.Overflow.{Overflow}

abbrev pub sums : List ℕ → List ℕ → List ℕ
sums u v = map (λ e. slice_index u e + slice_index v e) (range_with_len 0 (length u))

abbrev pub differences : List ℕ → List ℕ → List ℕ
differences u v = map (λ e. slice_index u e - slice_index v e) (range_with_len 0 (length u))

-- the least edge whose sum is 2^126 or more, and this sum
pub record IsLeastOver (u v : List ℕ) (o : Overflow) : Type 0 where
  pub within : o.edge < length u
  pub value : o.value ≡ slice_index u o.edge + slice_index v o.edge
  pub over : COORDINATE_LIMIT ≤ o.value
  pub before : (k : ℕ) → k < o.edge → slice_index u k + slice_index v k < COORDINATE_LIMIT

-- v can be taken off u: no difference is negative, and the differences are a multicurve's
pub record IsPartOf (triples : List (List ℤ)) (v u : List ℕ) : Type 0 where
  pub no_more : (e : ℕ) → e < length u → slice_index v e ≤ slice_index u e
  pub rest : IsMulticurve triples (differences u v)
