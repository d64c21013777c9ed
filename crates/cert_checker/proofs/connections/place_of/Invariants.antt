use Rattle.std.proofs.Common.{ℕ, ◌≢◌, ◌<◌}
use Rattle.train_track.specs.Branches.{letter_at}
use Rattle.cert_checker.proofs.connections.place_of.Given as goal

abbrev pub invariant-loop-i : goal.invariant-loop-i
invariant-loop-i l = (k : ℕ) → k < l.i → letter_at l.switches k ≢ l.s
