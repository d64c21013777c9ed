use Rattle.surface_lib.proofs.ManyRead.{AreRead}
use Rattle.surface_lib.proofs.generators.read_generators.Given as goal

abbrev pub invariant-loop-index : goal.invariant-loop-index
invariant-loop-index g l = AreRead g.T.Twister.twists l.version l.fn.s l.s l.entries l.index
