use Rattle.surface_lib.proofs.Flips.{AreFlipped}
use Rattle.surface_lib.proofs.flips_form.flips_in.Given as goal

abbrev pub invariant-loop-index : goal.invariant-loop-index
invariant-loop-index l = AreFlipped l.fn.atlas l.atlas l.edges l.path l.index
