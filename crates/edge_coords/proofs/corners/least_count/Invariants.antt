use Rattle.ideal_tri.specs.Triangulations.{IsLabel}
use Rattle.edge_coords.proofs.Turns.{IsLeastSoFar}
use Rattle.edge_coords.proofs.corners.least_count.Given as goal

abbrev pub invariant-loop : goal.invariant-loop
invariant-loop l = record {
  label : IsLabel l.tri l.corner;
  so_far : IsLeastSoFar l.tri l.w l.fn.x l.corner l.least l.counter;
}
