use Rattle.std.proofs.Common.{count_by, not}
use Rattle.relabel.proofs.Forced.{AreTables}
use Rattle.relabel.proofs.one_label.forced_images.Given as goal

abbrev pub invariant-loop-side : goal.invariant-loop-side
invariant-loop-side l = AreTables l.from l.to l.fn.x l.fn.y l.images l.known

abbrev pub decreases-loop-side : goal.decreases-loop-side
decreases-loop-side l = count_by not l.known
