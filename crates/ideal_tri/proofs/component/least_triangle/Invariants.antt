use Rattle.std.proofs.Common.{◌<◌, ℕ}
use Rattle.ideal_tri.specs.Triangulations.{IsReached}
use Rattle.ideal_tri.proofs.component.least_triangle.Given as goal

abbrev pub invariant-loop-s : goal.invariant-loop-s
invariant-loop-s l = (k : ℕ) → k < l.s → IsReached l.tri l.t k → ⊥
