-- The first cycle of a triangulation that runs round no vertex.
use Rattle.std.specs.Prelude.{◌≡◌, ◌<◌, ℕ, ℤ, List, [], length, slice_index_or}
use Rattle.ideal_tri.specs.PeripheralParts.{HasFreeCorners}
use Rattle.tri_atlas.specs.Arena.{Arena, triangulation}
use Rattle.edge_coords.specs.Coordinates.{Coordinates, AreCoordinatesIn}
use Rattle.multicurve_cert.specs.Candidates.{IsNothing}
use Rattle.multicurve_cert.specs.Cycles.{AreCycles, cycle_vector}

-- the vector of a multicurve that is nonperipheral: it isn't zero, and each vertex has a corner that
-- no strand cuts off
abbrev pub IsOpen : List (List ℤ) → List ℕ → Type 0
IsOpen triples w = (¬ IsNothing w) × HasFreeCorners triples w

-- the vector of the cycle at a place of a list
abbrev pub vector_at : List (List ℤ) → List (List ℤ) → ℕ → List ℕ
vector_at triples cycles i = cycle_vector triples (slice_index_or cycles i [])

-- w is the vector of the first cycle that is nonperipheral, in the order of cycles
pub record IsOpenCycle (triples : List (List ℤ)) (w : List ℕ) : Type 0 where
  pub cycles : List (List ℤ)
  pub are_cycles : AreCycles triples cycles
  pub place : ℕ
  pub within : place < length cycles
  pub vector : w ≡ vector_at triples cycles place
  pub is_open : IsOpen triples w
  pub first : (i : ℕ) → i < place → ¬ IsOpen triples (vector_at triples cycles i)

-- no cycle is nonperipheral
pub record HasNoOpenCycle (triples : List (List ℤ)) : Type 0 where
  pub cycles : List (List ℤ)
  pub are_cycles : AreCycles triples cycles
  pub none : (i : ℕ) → i < length cycles → ¬ IsOpen triples (vector_at triples cycles i)

-- the coordinates of the first one at the base
pub record IsOpenCycleIn (arena : Arena) (c : Coordinates) : Type 0 where
  pub here : AreCoordinatesIn arena c
  pub base : c.tri ≡ 0
  pub cycle : IsOpenCycle (triangulation arena 0) c.numbers
