use Rattle.std.proofs.Common.{take}
use Rattle.ideal_tri.specs.Triangulations.{IsWalk}
use Rattle.free_groupoid.proofs.walk.Walk.new.Given as goal

abbrev pub invariant-loop-i : goal.invariant-loop-i
invariant-loop-i l = IsWalk l.tri l.start (take l.i l.letters) l.stand
