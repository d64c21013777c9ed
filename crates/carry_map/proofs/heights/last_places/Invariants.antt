use Rattle.std.proofs.Common.{◌≡◌, ◌<◌, ◌+◌, ℕ, length, get_or}
use Rattle.carry_map.proofs.heights.last_places.Given as goal

abbrev pub invariant-loop-count : goal.invariant-loop-count
invariant-loop-count l =
    (length l.heights.items ≡ l.count-index)
    × ((k : ℕ) → k < l.count-index → get_or l.heights.items k 0 + 1 ≡ get_or l.counts k 0)
