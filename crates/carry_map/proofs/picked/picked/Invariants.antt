use Rattle.std.proofs.Common.{ℕ, [], ◌≡◌, ◌<◌, length, get_or, slice_index}
use Rattle.carry_map.specs.AnchorAnswers.{place_at}
use Rattle.carry_map.proofs.picked.picked.Given as goal

abbrev pub invariant-loop-i : goal.invariant-loop-i
invariant-loop-i l =
    (length l.picked.items ≡ l.i)
    × ((k : ℕ) → k < l.i → place_at l.picked.items k
    ≡ place_at (get_or l.all k []) (slice_index l.numbers k))
