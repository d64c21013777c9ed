use Rattle.std.proofs.Common.{◌≤◌, ◌-◌, length}
use Rattle.edge_coords.proofs.tests.count.Given as goal

abbrev pub invariant-loop-start : goal.invariant-loop-start
invariant-loop-start l = record { order : l.start ≤ l.end; within : l.end ≤ length l.word }

abbrev pub decreases-loop-start : goal.decreases-loop-start
decreases-loop-start l = l.end - l.start
