use Rattle.std.proofs.Common.{◌≡◌, ◌<◌, ℕ, slice_index}
use Rattle.transition_matrix.specs.Matrices.{entry}
use Rattle.cert_checker.proofs.matrix.are_entries.Given as goal

abbrev pub invariant-loop-j : goal.invariant-loop-j
invariant-loop-j l = (k : ℕ) → k < l.j → slice_index l.row k ≡ entry l.m l.i k
