use Rattle.std.proofs.Common.{ℕ, IfOk, IfSome, sym, subst}
use Rattle.multicurve_cert.specs.CurveAnswers.{AreAllFailing}
use Rattle.verdict_plan.specs.Verdicts.{HasNoOrder}
use Rattle.verdict_plan.specs.inside.OpenStages.{AreFurtherStages}
use Rattle.verdict_plan.specs.inside.Tried.{IsPowerLog, IsSound}
use Rattle.verdict_plan.proofs.GrownBase.{onward, backward, loop_on}
use Rattle.verdict_plan.proofs.plan.try_further.Goals as goal

pub try_stages-requires-clause-closed : goal.try_stages-requires-clause-closed
try_stages-requires-clause-closed c =
    loop_on c.atlas_laws.ensures.growth c.args.atlas.now c.further_stages.new.atlas c.args.word.now
    c.in_ok-stages.ensures.grows c.base.ensures.sound.base c.requires.closed

pub try_stages-requires-clause-stages : goal.try_stages-requires-clause-stages
try_stages-requires-clause-stages c =
    subst
    (λ (n : ℕ). AreFurtherStages c.further_stages.new.atlas c.args.word.now n c.deref.result.now)
    c.greater_budget.ensures
    (subst (AreFurtherStages c.further_stages.new.atlas c.args.word.now c.greater_budget.result)
    (sym c.deref.ensures.value)
    c.in_ok-stages.ensures.stages)

pub try_stages-requires-clause-no_order : goal.try_stages-requires-clause-no_order
try_stages-requires-clause-no_order c =
    onward c.atlas_laws.ensures.growth c.args.atlas.now c.further_stages.new.atlas c.args.word.now
    c.in_ok-stages.ensures.grows c.base.ensures.sound.base c.requires.closed
    (λ ts ms. HasNoOrder ts ms c.args.budget.now.powers) c.requires.no_order

pub try_stages-requires-clause-log : goal.try_stages-requires-clause-log
try_stages-requires-clause-log c =
    onward c.atlas_laws.ensures.growth c.args.atlas.now c.further_stages.new.atlas c.args.word.now
    c.in_ok-stages.ensures.grows c.base.ensures.sound.base c.requires.closed
    (λ ts ms. IfSome c.args.log (IsPowerLog ts ms c.args.budget.now.powers)) c.requires.log

pub try_stages-requires-clause-curves : goal.try_stages-requires-clause-curves
try_stages-requires-clause-curves c =
    onward c.atlas_laws.ensures.growth c.args.atlas.now c.further_stages.new.atlas c.args.word.now
    c.in_ok-stages.ensures.grows c.base.ensures.sound.base c.requires.closed
    (λ ts ms. AreAllFailing ts ms c.args.budget.now.curves c.args.curves.items) c.requires.curves

pub returns-clause-sound : goal.returns-clause-sound
returns-clause-sound c =
    backward c.atlas_laws.ensures.growth c.args.atlas.now c.further_stages.new.atlas c.args.word.now
    c.in_ok-stages.ensures.grows c.base.ensures.sound.base c.requires.closed
    (λ ts ms. IfOk c.try_stages.result (IsSound ts ms c.args.budget.now)) c.try_stages.ensures.sound
