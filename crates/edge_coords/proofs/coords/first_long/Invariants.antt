use Rattle.ideal_tri.specs.Vectors.{HasNoLongSide}
use Rattle.edge_coords.proofs.Triangles.{PassBefore}
use Rattle.edge_coords.proofs.coords.first_long.Given as goal

abbrev pub invariant-loop-t : goal.invariant-loop-t
invariant-loop-t l = PassBefore (HasNoLongSide l.w) l.tri l.t
