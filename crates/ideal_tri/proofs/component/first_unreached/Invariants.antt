use Rattle.std.proofs.Common.{◌<◌, ℕ}
use Rattle.ideal_tri.specs.Triangulations.{IsReached}
use Rattle.ideal_tri.proofs.component.first_unreached.Given as goal

abbrev pub invariant-loop-t : goal.invariant-loop-t
invariant-loop-t l = (k : ℕ) → k < l.t → IsReached l.tri 0 k
