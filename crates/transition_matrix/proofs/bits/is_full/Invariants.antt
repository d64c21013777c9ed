use Rattle.std.proofs.Common.{◌≡◌, ◌<◌, ℕ, true}
use Rattle.transition_matrix.specs.inside.Bits.{bit}
use Rattle.transition_matrix.proofs.bits.is_full.Given as goal

abbrev pub invariant-loop-i : goal.invariant-loop-i
invariant-loop-i l = (i j : ℕ) → i < l.i → j < l.n → bit l.width l.words i j ≡ true
