use Rattle.verdict_plan.specs.inside.FurtherSites.{IsPathBack}
use Rattle.verdict_plan.proofs.repairs.path_back.Given as goal

abbrev pub invariant-loop : goal.invariant-loop
invariant-loop l = IsPathBack l.atlas l.word l.stage l.counter l.path
