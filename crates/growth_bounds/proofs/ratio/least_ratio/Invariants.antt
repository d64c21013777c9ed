use Rattle.std.proofs.Common.{slice_index}
use Rattle.growth_bounds.specs.Rule.{IsLeastRatio}
use Rattle.growth_bounds.proofs.ratio.least_ratio.Given as goal

abbrev pub invariant-loop-i : goal.invariant-loop-i
invariant-loop-i l = IsLeastRatio l.i (slice_index l.v) (slice_index l.u) l.least
