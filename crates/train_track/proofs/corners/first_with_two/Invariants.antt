use Rattle.std.proofs.Common.{◌<◌, ℕ}
use Rattle.train_track.specs.Refusals.{HasTwo}
use Rattle.train_track.proofs.corners.first_with_two.Given as goal

abbrev pub invariant-loop-t : goal.invariant-loop-t
invariant-loop-t l = (s : ℕ) → s < l.t → ¬ HasTwo l.tri l.left_out s
