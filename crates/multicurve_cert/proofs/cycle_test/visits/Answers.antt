use Rattle.std.proofs.Common.{rules, arith, sym, ◌∙◌}
use Rattle.multicurve_cert.proofs.CycleTests.{visits_here, visits_not_more}
use Rattle.multicurve_cert.proofs.cycle_test.visits.Goals as goal

pub loop-x-preserved : goal.loop-x-preserved
loop-x-preserved c =
    visits_not_more _ _ _ _ _ c.loop-x.invariant c.loop-x-test.true c.x-item.is
    (λ e. c.if-place-t.false (c.place.ensures.triangle ∙ e))

pub returns-then-place-t : goal.returns-then-place-t
returns-then-place-t c = (
  λ t. visits_here _ _ _ _ _ c.loop-x-test.true c.x-item.is (sym c.place.ensures.triangle ∙ c.if-place-t.true),
  λ h. search rules,
)

pub returns : goal.returns
returns c = (
  λ t. search rules,
  λ (i, inside, e). absurd (c.loop-x.invariant i (omega arith) e),
)
