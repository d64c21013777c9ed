use Rattle.std.proofs.Common.{◌-◌, length}
use Rattle.train_track.specs.Branches.{words_of}
use Rattle.train_track.proofs.Cutting.{IsCutUpTo}
use Rattle.train_track.proofs.passes.passes.Given as goal

abbrev pub invariant-loop-i : goal.invariant-loop-i
invariant-loop-i l = IsCutUpTo (words_of l.branches) l.letters l.numbers.items l.i

abbrev pub decreases-loop-i : goal.decreases-loop-i
decreases-loop-i l = length l.letters - l.i
