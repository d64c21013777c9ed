use Rattle.std.proofs.Common.{◌≡◌}
use Rattle.ideal_tri.specs.Triangulations.{IsLabel}
use Rattle.ideal_tri.specs.Vertices.{corner_after, least_within}
use Rattle.ideal_tri.proofs.vertex.least_corner.Given as goal

abbrev pub invariant-loop : goal.invariant-loop
invariant-loop l = record {
  corner : l.corner ≡ corner_after l.fn.tri l.counter l.fn.x;
  label : IsLabel l.fn.tri l.corner;
  least : l.least ≡ least_within l.fn.tri l.counter l.fn.x;
  least_label : IsLabel l.fn.tri l.least;
}
