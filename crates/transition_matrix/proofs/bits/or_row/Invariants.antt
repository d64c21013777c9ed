use Rattle.std.proofs.Common.{◌≡◌, ◌<◌, ◌≤◌, ◌+◌, ◌*◌, ℕ, slice_index, bit_or}
use Rattle.transition_matrix.proofs.bits.or_row.Given as goal

abbrev pub invariant-loop-t : goal.invariant-loop-t
invariant-loop-t l = record {
  joined : (s : ℕ) → s < l.t → slice_index l.words (l.i * l.width + s)
      ≡ bit_or (slice_index l.initial.words (l.i * l.width + s)) (slice_index l.others (l.l * l.width + s));
  before : (p : ℕ) → p < l.i * l.width → slice_index l.words p ≡ slice_index l.initial.words p;
  after : (p : ℕ) → l.i * l.width + l.t ≤ p → slice_index l.words p ≡ slice_index l.initial.words p;
}
