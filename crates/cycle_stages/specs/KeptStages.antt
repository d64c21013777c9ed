-- How a stage is kept in an atlas, and what one more flip makes of it.
use Rattle.std.specs.Prelude.{◌≡◌, ◌+◌, ℕ, ℤ, List, Bool, true, false, length}
use Rattle.tri_atlas.specs.Arena.{Arena, triangulation}
use Rattle.tri_atlas.specs.FlipPaths.{CanBeFlipped, flips_along, flipped_along}
use Rattle.tri_atlas.specs.Moves.{Move}
use Rattle.tri_atlas.specs.Paths.{IsPathIn, moves_of}
use Rattle.edge_coords.specs.Coordinates.{AreCoordinatesIn}
use Rattle.cycle_stages.specs.Stages.{IsStage, HasNoNext}
use Rattle.cycle_stages.specs.declared.stages.Stage.{Stage}

-- the triangulation of its coordinates
abbrev pub there : Arena → Stage → List (List ℤ)
there arena s = triangulation arena s.coords.tri

-- the path makes the flips of the edges, from the base to where the coordinates are
pub record IsKept (arena : Arena) (s : Stage) : Type 0 where
  pub path : IsPathIn arena s.path
  pub start : s.path.start ≡ 0
  pub end : s.path.end ≡ s.coords.tri
  pub flippable : CanBeFlipped (triangulation arena 0) s.edges.items
  pub moves : moves_of arena s.path ≡ flips_along (triangulation arena 0) s.edges.items
  pub leads : there arena s ≡ flipped_along (triangulation arena 0) s.edges.items
  pub here : AreCoordinatesIn arena s.coords

-- it is the stage of this depth of the cycle with the vector w
abbrev pub IsStageIn : Arena → List (List ℤ) → List Move → List ℕ → ℕ → Stage → Type 0
IsStageIn arena triples moves w depth s =
    IsStage triples moves w depth s.edges.items (there arena s) s.coords.numbers

-- the path, the edges and the coordinates are the same
pub record IsSame (s t : Stage) : Type 0 where
  pub path : t.path ≡ s.path
  pub edges : t.edges.items ≡ s.edges.items
  pub coords : t.coords ≡ s.coords

-- whatever stage it was, it is now one flip deeper
abbrev pub IsDeeper : Arena → Stage → Arena → Stage → Type 0
IsDeeper old s new t =
    (triples : List (List ℤ)) (moves : List Move) (w : List ℕ) (depth : ℕ)
    → IsStageIn old triples moves w depth s → IsStageIn new triples moves w (depth + 1) t

-- one flip was made; or none could be, and the stage is as it was
abbrev pub HasMade : Bool → Arena → Stage → Stage → Type 0
HasMade true old s t = length t.edges.items ≡ length s.edges.items + 1
HasMade false old s t = IsSame s t × HasNoNext (there old s) s.coords.numbers
