use Rattle.free_groupoid.proofs.Joining.{AreCancelled}
use Rattle.free_groupoid.proofs.word.cancelled_letters.Given as goal

abbrev pub invariant-loop-met : goal.invariant-loop-met
invariant-loop-met l = AreCancelled l.word l.more l.met
