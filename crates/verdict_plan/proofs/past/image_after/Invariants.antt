use Rattle.verdict_plan.proofs.PastCandidates.{IsTurned}
use Rattle.verdict_plan.proofs.past.image_after.Given as goal

abbrev pub invariant-loop : goal.invariant-loop
invariant-loop l = IsTurned l.atlas l.word l.w l.counter l.image
