use Rattle.std.proofs.Common.{◌<◌, ℕ}
use Rattle.train_track.specs.Branches.{words_of}
use Rattle.train_track.specs.inside.Passing.{IsBeginning}
use Rattle.train_track.proofs.passes.passed.Given as goal

abbrev pub invariant-loop-k : goal.invariant-loop-k
invariant-loop-k l = (j : ℕ) → j < l.k → ¬ IsBeginning (words_of l.branches) l.x l.y j
