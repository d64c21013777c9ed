use Rattle.std.proofs.Common.{ℕ, ◌<◌}
use Rattle.free_groupoid.proofs.Rotations.{BeginsAt}
use Rattle.free_groupoid.proofs.word.is_rotation.Given as goal

abbrev pub invariant-loop-k : goal.invariant-loop-k
invariant-loop-k l = (j : ℕ) → j < l.k → ¬ (BeginsAt l.v l.w j)
