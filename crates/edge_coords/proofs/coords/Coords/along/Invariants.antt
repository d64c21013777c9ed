use Rattle.std.proofs.Common.{◌≡◌, ◌<◌, ℕ, map, take, drop, All}
use Rattle.tri_atlas.specs.Arena.{IsMoveIn, step_of}
use Rattle.tri_atlas.specs.Paths.{Lead}
use Rattle.tri_atlas.specs.MovedVectors.{vector_along, move_at, IsOver}
use Rattle.edge_coords.specs.Coordinates.{AreCoordinatesIn}
use Rattle.edge_coords.specs.declared.coords.TheConstants.{COORDINATE_LIMIT}
use Rattle.edge_coords.proofs.coords.Coords.along.Given as goal

abbrev pub invariant-loop-k : goal.invariant-loop-k
invariant-loop-k l = record {
  numbers : l.moved.numbers ≡ vector_along (take l.k (map (step_of l.atlas) l.moves)) l.self.numbers;
  here : AreCoordinatesIn l.atlas l.moved;
  moves_here : All (IsMoveIn l.atlas) (take l.k l.moves);
  lead : Lead l.atlas l.moved.tri (drop l.k l.moves) l.p.end;
  fits : (j : ℕ) → j < l.k → ¬ IsOver COORDINATE_LIMIT (move_at (map (step_of l.atlas) l.moves) j)
      (vector_along (take j (map (step_of l.atlas) l.moves)) l.self.numbers);
}
