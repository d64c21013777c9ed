use Rattle.std.proofs.Common.{◌≡◌, ◌<◌, ◌*◌, ◌^◌, slice_index}
use Rattle.transition_matrix.specs.Matrices.{entry, sum_below}
use Rattle.growth_bounds.proofs.rule.product_at.Given as goal

abbrev pub invariant-loop-i : goal.invariant-loop-i
invariant-loop-i l = record {
  added : l.sum ≡ sum_below l.i (λ i. slice_index l.u i * entry l.m i l.j);
  small : l.sum < 2 ^ 63;
}
