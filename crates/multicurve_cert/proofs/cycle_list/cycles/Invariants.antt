use Rattle.std.proofs.Common.{[]}
use Rattle.multicurve_cert.specs.inside.CycleParts.{Adds}
use Rattle.multicurve_cert.proofs.CycleStages.{IsShorter}
use Rattle.multicurve_cert.proofs.cycle_list.cycles.Given as goal

abbrev pub invariant-loop-n : goal.invariant-loop-n
invariant-loop-n l = Adds l.tri (IsShorter l.tri l.n) [] l.walks.items
