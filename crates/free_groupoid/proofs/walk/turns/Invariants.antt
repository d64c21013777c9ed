use Rattle.free_groupoid.proofs.Turns.{TurnsUpTo}
use Rattle.free_groupoid.proofs.walk.turns.Given as goal

abbrev pub invariant-loop-x : goal.invariant-loop-x
invariant-loop-x l = TurnsUpTo l.tri l.on l.letters l.initial.last l.last l.x-index
