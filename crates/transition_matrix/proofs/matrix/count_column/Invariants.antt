use Rattle.std.proofs.Common.{◌≡◌, ◌≢◌, ◌<◌, ◌+◌, ◌*◌, ℕ, take, count_by, nat_eq, slice_index}
use Rattle.transition_matrix.proofs.matrix.count_column.Given as goal

abbrev pub invariant-loop-i : goal.invariant-loop-i
invariant-loop-i l =
    ((i : ℕ) → i < l.n → slice_index l.entries (i * l.n + l.j) ≡ count_by (nat_eq i) (take l.i-index l.column))
    × ((i k : ℕ) → i < l.n → k < l.n → k ≢ l.j → slice_index l.entries (i * l.n + k)
    ≡ slice_index l.initial.entries (i * l.n + k))
