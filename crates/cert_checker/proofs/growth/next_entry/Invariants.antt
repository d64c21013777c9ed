use Rattle.std.proofs.Common.{◌≡◌, ◌*◌, ◌^◌, ◌-◌, min, slice_index}
use Rattle.transition_matrix.specs.Matrices.{entry, sum_below}
use Rattle.cert_text.specs.Certificates.{track_seen}
use Rattle.cert_text.specs.PseudoAnosov.{matrix_of}
use Rattle.cert_checker.proofs.growth.next_entry.Given as goal

abbrev pub invariant-loop-j : goal.invariant-loop-j
invariant-loop-j l =
    l.sum ≡ min (sum_below l.j (λ k. slice_index l.c.u.items k * entry (matrix_of (track_seen l.c)) k l.i)) (2 ^ 128 - 1)
