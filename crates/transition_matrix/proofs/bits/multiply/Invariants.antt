use Rattle.std.proofs.Common.{◌≡◌, ◌<◌, ◌≤◌, ◌*◌, ℕ, false}
use Rattle.std.specs.Prelude.{◌&&◌}
use Rattle.transition_matrix.specs.inside.Bits.{bit, any_below}
use Rattle.transition_matrix.proofs.bits.multiply.Given as goal

abbrev pub invariant-loop-i : goal.invariant-loop-i
invariant-loop-i l = record {
  done : (i j : ℕ) → i < l.i → j < l.width * 64
      → bit l.width l.words i j ≡ any_below l.n (λ r. bit l.width l.left i r && bit l.width l.right r j);
  clear : (i j : ℕ) → l.i ≤ i → j < l.width * 64 → bit l.width l.words i j ≡ false;
}
