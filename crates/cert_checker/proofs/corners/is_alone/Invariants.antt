use Rattle.std.proofs.Common.{◌≢◌, ◌<◌, ℕ}
use Rattle.ideal_tri.specs.Triangulations.{triangle_of}
use Rattle.train_track.specs.Branches.{letter_at}
use Rattle.cert_checker.proofs.corners.is_alone.Given as goal

abbrev pub invariant-loop-j : goal.invariant-loop-j
invariant-loop-j l =
    (k : ℕ) → k < l.j
    → triangle_of l.tri (letter_at l.corners k) ≢ triangle_of l.tri (letter_at l.corners l.i)
