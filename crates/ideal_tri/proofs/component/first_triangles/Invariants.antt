use Rattle.std.proofs.Common.{◌≡◌}
use Rattle.ideal_tri.specs.Components.{first_triangles}
use Rattle.ideal_tri.proofs.component.first_triangles.Given as goal

abbrev pub invariant-loop-t : goal.invariant-loop-t
invariant-loop-t l = l.found ≡ first_triangles l.tri l.t
