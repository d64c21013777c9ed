use Rattle.cycle_stages.specs.inside.NextFlips.{IsFound}
use Rattle.cycle_stages.proofs.stages.greatest.Given as goal

abbrev pub invariant-loop-e : goal.invariant-loop-e
invariant-loop-e l = IsFound l.tri l.w l.e l.best
