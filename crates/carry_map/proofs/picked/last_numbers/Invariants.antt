use Rattle.std.proofs.Common.{ℕ, [], ◌≡◌, ◌<◌, ◌-◌, length, get_or, slice_index}
use Rattle.carry_map.proofs.picked.last_numbers.Given as goal

abbrev pub invariant-loop-i : goal.invariant-loop-i
invariant-loop-i l =
    (length l.numbers.items ≡ l.i)
    × ((k : ℕ) → k < l.i → slice_index l.numbers.items k ≡ length (get_or l.all k []) - 1)
