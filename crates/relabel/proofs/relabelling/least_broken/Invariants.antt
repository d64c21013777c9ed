use Rattle.std.proofs.Common.{All, take}
use Rattle.ideal_tri.specs.Relabellings.{IsCarried}
use Rattle.relabel.proofs.relabelling.least_broken.Given as goal

abbrev pub invariant-loop-t : goal.invariant-loop-t
invariant-loop-t l = All (IsCarried l.to l.relabelling) (take l.t l.from)
