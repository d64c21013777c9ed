use Rattle.free_groupoid.proofs.Joining.{AreCommon}
use Rattle.free_groupoid.proofs.word.common_letters.Given as goal

abbrev pub invariant-loop-met : goal.invariant-loop-met
invariant-loop-met l = AreCommon l.word l.more l.met
