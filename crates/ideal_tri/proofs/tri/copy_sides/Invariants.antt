use Rattle.std.proofs.Common.{◌≡◌, ◌++◌, ◌-◌, take}
use Rattle.ideal_tri.specs.declared.tri.TheConstants.{TRIANGLES}
use Rattle.ideal_tri.specs.inside.Places.{spare_triples}
use Rattle.ideal_tri.proofs.tri.copy_sides.Given as goal

abbrev pub invariant-loop-t : goal.invariant-loop-t
invariant-loop-t l = l.sides ≡ take l.t l.triples ++ spare_triples (TRIANGLES - l.t)
