use Rattle.std.proofs.Common.{◌*◌}
use Rattle.multicurve_cert.specs.inside.CycleParts.{Adds}
use Rattle.multicurve_cert.proofs.CycleStages.{BeginsBelow}
use Rattle.multicurve_cert.proofs.cycle_list.push_cycles.Given as goal

abbrev pub invariant-loop-e : goal.invariant-loop-e
invariant-loop-e l = Adds l.tri (BeginsBelow l.tri l.n (2 * l.e)) l.fn.walks.items l.walks.items
