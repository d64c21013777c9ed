use Rattle.std.proofs.Common.{take}
use Rattle.ideal_tri.specs.inside.Places.{IsPlaced}
use Rattle.ideal_tri.proofs.tri.place_labels.Given as goal

abbrev pub invariant-loop-k : goal.invariant-loop-k
invariant-loop-k l = IsPlaced (take l.k l.labels) l.place
