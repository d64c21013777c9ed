use Rattle.std.proofs.Common.{◌≡◌, ◌<◌, ℕ, true}
use Rattle.transition_matrix.specs.inside.Bits.{bit}
use Rattle.transition_matrix.proofs.bits.is_row_full.Given as goal

abbrev pub invariant-loop-j : goal.invariant-loop-j
invariant-loop-j l = (j : ℕ) → j < l.j → bit l.width l.words l.i j ≡ true
