use Rattle.free_groupoid.proofs.InPlace.{IsReducedUpTo}
use Rattle.free_groupoid.proofs.word.reduce.Given as goal

abbrev pub invariant-loop-i : goal.invariant-loop-i
invariant-loop-i l = IsReducedUpTo l.fn.letters.items l.letters.items l.top l.i
