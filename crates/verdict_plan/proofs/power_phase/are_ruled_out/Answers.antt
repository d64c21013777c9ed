use Rattle.verdict_plan.proofs.power_phase.are_ruled_out.Goals as goal

pub returns-in-Ok-false : goal.returns-in-Ok-false
returns-in-Ok-false c _ k some within inner =
    c.in-Ok-false.ensures c.in-Ok-false.field-0-test k some within (c.inner_fixes.ensures k inner)
