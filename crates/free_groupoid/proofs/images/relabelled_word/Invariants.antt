use Rattle.free_groupoid.proofs.Rewriting.{IsMovedUpTo}
use Rattle.free_groupoid.proofs.images.relabelled_word.Given as goal

abbrev pub invariant-loop-x : goal.invariant-loop-x
invariant-loop-x l = IsMovedUpTo l.images l.word l.moved.items l.x-index
