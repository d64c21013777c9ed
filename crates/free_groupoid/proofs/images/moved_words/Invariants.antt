use Rattle.free_groupoid.proofs.Rewriting.{AreMovedUpTo}
use Rattle.free_groupoid.proofs.images.moved_words.Given as goal

abbrev pub invariant-loop-word : goal.invariant-loop-word
invariant-loop-word l = AreMovedUpTo l.step l.words l.moved.items l.word-index
