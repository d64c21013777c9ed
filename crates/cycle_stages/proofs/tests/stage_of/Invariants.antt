use Rattle.cycle_stages.specs.KeptStages.{IsKept}
use Rattle.cycle_stages.proofs.tests.stage_of.Given as goal

abbrev pub invariant-loop : goal.invariant-loop
invariant-loop g l = IsKept l.atlas l.stage
