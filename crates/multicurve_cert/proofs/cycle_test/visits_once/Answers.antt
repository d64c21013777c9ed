use Rattle.std.proofs.Common.{rules, IsTrue, refl}
use Rattle.multicurve_cert.proofs.CycleTests.{once_more, not_once}
use Rattle.multicurve_cert.proofs.cycle_test.visits_once.Goals as goal

pub loop-i-preserved : goal.loop-i-preserved
loop-i-preserved c =
    once_more _ _ _ _ _ _ c.loop-i.invariant c.loop-i-test.true c.index-w-i.is refl c.place.ensures.triangle
    (λ seen. let is_true : IsTrue c.visits.result = c.visits.ensures.1 seen in
    let absurdity : ⊥ = search rules in absurdity)

pub returns-then-visits : goal.returns-then-visits
returns-then-visits c =
    let is_true : IsTrue c.visits.result = search rules in (
      λ t. search rules,
      λ once. absurd (not_once _ _ _ _ _ _ c.loop-i-test.true c.index-w-i.is refl c.place.ensures.triangle
          (c.visits.ensures.0 is_true) once),
    )
