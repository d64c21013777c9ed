use Rattle.std.proofs.Common.{◌+◌, ◌<◌, ℕ, slice_index}
use Rattle.edge_coords.specs.declared.coords.TheConstants.{COORDINATE_LIMIT}
use Rattle.edge_coords.proofs.Filled.{IsFilled}
use Rattle.edge_coords.proofs.sums.sums.Given as goal

abbrev pub invariant-loop-e : goal.invariant-loop-e
invariant-loop-e l = record {
  filled : IsFilled (λ e. slice_index l.u e + slice_index l.v e) l.sums l.e;
  small : (k : ℕ) → k < l.e → slice_index l.u k + slice_index l.v k < COORDINATE_LIMIT;
}
