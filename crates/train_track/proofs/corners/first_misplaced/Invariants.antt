use Rattle.std.proofs.Common.{◌<◌, ℕ}
use Rattle.train_track.specs.Tracks.{IsPlaced}
use Rattle.train_track.proofs.corners.first_misplaced.Given as goal

abbrev pub invariant-loop-i : goal.invariant-loop-i
invariant-loop-i l = (j : ℕ) → j < l.i → IsPlaced l.tri l.left_out j
