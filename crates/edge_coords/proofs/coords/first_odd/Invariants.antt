use Rattle.ideal_tri.specs.Vectors.{IsEven}
use Rattle.edge_coords.proofs.Triangles.{PassBefore}
use Rattle.edge_coords.proofs.coords.first_odd.Given as goal

abbrev pub invariant-loop-t : goal.invariant-loop-t
invariant-loop-t l = PassBefore (IsEven l.w) l.tri l.t
