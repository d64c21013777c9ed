use Rattle.std.proofs.Common.{◌≡◌, ◌<◌, ◌^◌, ℕ, slice_index}
use Rattle.transition_matrix.specs.Bounds.{times}
use Rattle.growth_bounds.proofs.rule.multiply.Given as goal

abbrev pub invariant-loop-j : goal.invariant-loop-j
invariant-loop-j l = (i : ℕ) → i < l.j
    → (slice_index l.v i ≡ times l.m (slice_index l.u) i) × (slice_index l.v i < 2 ^ 63)
