use Rattle.std.proofs.Common.{◌≢◌, ◌<◌, ℕ}
use Rattle.ideal_tri.specs.Vertices.{vertex_of}
use Rattle.train_track.specs.Branches.{letter_at}
use Rattle.cert_checker.proofs.corners.is_open.Given as goal

abbrev pub invariant-loop-j : goal.invariant-loop-j
invariant-loop-j l = (k : ℕ) → k < l.j → vertex_of l.tri (letter_at l.corners k) ≢ l.v
