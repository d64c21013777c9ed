use Rattle.std.proofs.Common.{◌+◌}
use Rattle.transition_matrix.specs.inside.Bits.{IsTable}
use Rattle.transition_matrix.proofs.Exponents.{HasSigns, NoneBefore}
use Rattle.transition_matrix.proofs.matrix.least_exponent.Given as goal

abbrev pub invariant-loop-k : goal.invariant-loop-k
invariant-loop-k l = record {
  reached : HasSigns l.matrix l.width (l.k + 1) l.power;
  none : NoneBefore l.matrix (l.k + 1);
  room : IsTable l.matrix.size l.width l.power;
}
