-- The rules for certificates of reducible words, 9 to 11. The word's path runs from the triangulation
-- to itself, and these are its moves.
use Rattle.std.specs.Prelude.{◌≡◌, ℕ, ℤ, List, length, All, slice_index}
use Rattle.ideal_tri.specs.PeripheralParts.{HasFreeCorners}
use Rattle.ideal_tri.specs.Triangulations.{edge_count}
use Rattle.ideal_tri.specs.Vectors.{IsMulticurve}
use Rattle.tri_atlas.specs.MovedVectors.{OverflowsAt, vector_along}
use Rattle.tri_atlas.specs.Moves.{Move}
use Rattle.edge_coords.specs.Coordinates.{AreSmall}
use Rattle.edge_coords.specs.PeripheralVertices.{IsLeastPeripheral}
use Rattle.edge_coords.specs.Refusals.{IsRefusedFor}
use Rattle.edge_coords.specs.declared.coords.TheConstants.{COORDINATE_LIMIT}
use Rattle.edge_coords.specs.declared.coords.CoordsError.{CoordsError}
use Rattle.edge_coords.specs.declared.coords.CoordsError.TheVariants.{WrongLength, TooLarge}
use Rattle.edge_coords.specs.declared.coords.CoordsError.TheVariants.{OddTriangle, LongSide}
use Rattle.cert_checker.specs.FirstFailing.{IsFirstFailing}

-- 9: the numbers are those of a multicurve, below the limit
pub record AreCoordinates (triples : List (List ℤ)) (coords : List ℕ) : Type 0 where
  pub multicurve : IsMulticurve triples coords
  pub small : AreSmall coords

-- where that is refused, the first fault: of the number of the coordinates the number of edges is
-- told, of a coordinate its edge, and of a triangle its number
abbrev pub fault_place : List (List ℤ) → CoordsError → ℕ
fault_place triples (WrongLength n) = edge_count triples
fault_place triples (TooLarge i) = i
fault_place triples (OddTriangle t) = t
fault_place triples (LongSide t) = t

-- 10: they aren't all zero, and each vertex has a corner without strands
abbrev pub AreAllZero : List ℕ → Type 0
AreAllZero coords = All (λ n. n ≡ 0) coords

-- 11: no image reaches the limit on the way, and the image is the vector, edge by edge
abbrev pub IsFixedAt : List Move → List ℕ → ℕ → Type 0
IsFixedAt moves coords e = slice_index (vector_along moves coords) e ≡ slice_index coords e

-- ---- the first rule that fails, and the place that is told

pub data IsReducibleRefusal (triples : List (List ℤ)) (moves : List Move) (coords : List ℕ)
    (rule place : ℕ) : Type 0 where
  by_fault : (fault : CoordsError) → rule ≡ 9 → place ≡ fault_place triples fault
      → IsRefusedFor triples coords fault
      → IsReducibleRefusal triples moves coords rule place
  by_zero : rule ≡ 10 → place ≡ 0 → AreCoordinates triples coords → AreAllZero coords
      → IsReducibleRefusal triples moves coords rule place
  by_vertex : rule ≡ 10 → AreCoordinates triples coords → ¬ AreAllZero coords
      → IsLeastPeripheral triples coords place
      → IsReducibleRefusal triples moves coords rule place
  by_overflow : (k : ℕ) → rule ≡ 11 → place ≡ edge_count triples
      → AreCoordinates triples coords → ¬ AreAllZero coords → HasFreeCorners triples coords
      → OverflowsAt COORDINATE_LIMIT triples coords moves k
      → IsReducibleRefusal triples moves coords rule place
  by_edge : rule ≡ 11 → AreCoordinates triples coords → ¬ AreAllZero coords
      → HasFreeCorners triples coords
      → ((k : ℕ) → ¬ OverflowsAt COORDINATE_LIMIT triples coords moves k)
      → IsFirstFailing (length coords) (IsFixedAt moves coords) place
      → IsReducibleRefusal triples moves coords rule place
