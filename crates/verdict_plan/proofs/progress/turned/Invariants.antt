use Rattle.verdict_plan.specs.inside.Sites.{IsBackWay}
use Rattle.verdict_plan.proofs.progress.turned.Given as goal

abbrev pub invariant-loop : goal.invariant-loop
invariant-loop l = IsBackWay l.atlas l.word l.stage l.counter l.way
