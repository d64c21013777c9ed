use Rattle.std.proofs.Common.{◌≡◌, take}
use Rattle.edge_coords.specs.Coordinates.{total_of}
use Rattle.edge_coords.proofs.coords.Coords.total.Given as goal

abbrev pub invariant-loop-n : goal.invariant-loop-n
invariant-loop-n l = l.total ≡ total_of (take l.n-index l.n-items)
