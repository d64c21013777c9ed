use Rattle.std.proofs.Common.{◌-◌}
use Rattle.free_groupoid.proofs.Ends.{AreStripped}
use Rattle.free_groupoid.proofs.word.matching_ends.Given as goal

abbrev pub invariant-loop-ends : goal.invariant-loop-ends
invariant-loop-ends l = AreStripped l.letters l.ends

abbrev pub decreases-loop-ends : goal.decreases-loop-ends
decreases-loop-ends l = l.count - l.ends
