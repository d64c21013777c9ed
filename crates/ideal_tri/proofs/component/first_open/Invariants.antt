use Rattle.std.proofs.Common.{◌≡◌, ◌<◌, ℕ, true, false, get_or}
use Rattle.ideal_tri.proofs.component.first_open.Given as goal

abbrev pub invariant-loop-t : goal.invariant-loop-t
invariant-loop-t l = (k : ℕ) → k < l.t → get_or l.reached k false ≡ true → get_or l.done k false ≡ true
