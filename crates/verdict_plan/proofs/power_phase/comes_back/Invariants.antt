use Rattle.verdict_plan.proofs.Following.{IsFollowed}
use Rattle.verdict_plan.proofs.power_phase.comes_back.Given as goal

abbrev pub invariant-loop : goal.invariant-loop
invariant-loop l = IsFollowed l.atlas l.word l.w l.counter l.image
