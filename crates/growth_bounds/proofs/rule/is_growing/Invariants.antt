use Rattle.std.proofs.Common.{◌<◌, ℕ, slice_index}
use Rattle.growth_bounds.proofs.rule.is_growing.Given as goal

abbrev pub invariant-loop-i : goal.invariant-loop-i
invariant-loop-i l = (i : ℕ) → i < l.i → (0 < slice_index l.u i) × (slice_index l.u i < slice_index l.v i)
