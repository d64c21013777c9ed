use Rattle.std.proofs.Common.{◌≡◌, ◌≢◌, ◌<◌, ◌*◌, ℕ}
use Rattle.std.specs.Prelude.{◌&&◌}
use Rattle.transition_matrix.specs.inside.Bits.{bit, any_below}
use Rattle.transition_matrix.proofs.bits.multiply_row.Given as goal

abbrev pub invariant-loop-l : goal.invariant-loop-l
invariant-loop-l l = record {
  here : (j : ℕ) → j < l.width * 64
      → bit l.width l.words l.i j ≡ any_below l.l (λ r. bit l.width l.left l.i r && bit l.width l.right r j);
  rows : (k j : ℕ) → k ≢ l.i → j < l.width * 64 → bit l.width l.words k j ≡ bit l.width l.initial.words k j;
}
