use Rattle.transition_matrix.proofs.Signs.{IsWritten}
use Rattle.transition_matrix.proofs.matrix.write_signs.Given as goal

abbrev pub invariant-loop-j : goal.invariant-loop-j
invariant-loop-j l = IsWritten l.matrix l.width l.words l.i l.j

abbrev pub invariant-loop-i : goal.invariant-loop-i
invariant-loop-i l = IsWritten l.matrix l.width l.words l.i 0
