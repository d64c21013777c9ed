use Rattle.std.proofs.Common.{◌≡◌, length}
use Rattle.ideal_tri.specs.Vertices.{first_corners_below}
use Rattle.ideal_tri.proofs.vertex.first_corners.Given as goal

abbrev pub invariant-loop-k : goal.invariant-loop-k
invariant-loop-k l = l.found ≡ length (first_corners_below l.tri l.k)
