-- The first of some cycles, given as walks, that is nonperipheral.
use Rattle.std.specs.Prelude.{◌≡◌, ◌<◌, ℕ, ℤ, List, length}
use Rattle.tri_atlas.specs.Arena.{Arena, triangulation}
use Rattle.edge_coords.specs.Coordinates.{Coordinates, AreCoordinatesIn}
use Rattle.free_groupoid.specs.Walks.{DualWalk, walk_at}
use Rattle.multicurve_cert.specs.Cycles.{cycle_vector}
use Rattle.cycle_stages.specs.OpenCycles.{IsOpen}

-- the vector of the walk at a place
abbrev pub walk_vector : List (List ℤ) → List DualWalk → ℕ → List ℕ
walk_vector triples walks i =
    cycle_vector triples (walk_at walks i).letters

-- none of the first n walks is nonperipheral
abbrev pub AreShut : List (List ℤ) → List DualWalk → ℕ → Type 0
AreShut triples walks n = (i : ℕ) → i < n → ¬ IsOpen triples (walk_vector triples walks i)

-- the first one that is
pub record IsFirstOpen (arena : Arena) (walks : List DualWalk) (c : Coordinates) : Type 0 where
  pub here : AreCoordinatesIn arena c
  pub base : c.tri ≡ 0
  pub place : ℕ
  pub within : place < length walks
  pub vector : c.numbers ≡ walk_vector (triangulation arena 0) walks place
  pub is_open : IsOpen (triangulation arena 0) c.numbers
  pub first : AreShut (triangulation arena 0) walks place

-- there is none
abbrev pub HasNoOpen : List (List ℤ) → List DualWalk → Type 0
HasNoOpen triples walks = AreShut triples walks (length walks)
