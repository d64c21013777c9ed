use Rattle.std.proofs.Common.{ℕ, ◌<◌, ◌≤◌}
use Rattle.ideal_tri.specs.Relabellings.{hits}
use Rattle.relabel.proofs.relabelling.least_hit_twice.Given as goal

abbrev pub invariant-loop-edge : goal.invariant-loop-edge
invariant-loop-edge l = (e : ℕ) → e < l.edge → hits l.list e ≤ 1
