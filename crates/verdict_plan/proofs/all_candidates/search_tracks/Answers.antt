use Rattle.std.proofs.Common.{IfOk, sym, subst}
use Rattle.verdict_plan.specs.AllCandidates.{IsTracksAnswer}
use Rattle.verdict_plan.specs.FirstTracks.{HoldsWhereFound}
use Rattle.verdict_plan.specs.inside.OpenStages.{AreFurtherStages}
use Rattle.verdict_plan.proofs.GrownBase.{backward, loop_on}
use Rattle.verdict_plan.proofs.all_candidates.search_tracks.Goals as goal

pub search_all-requires-clause-closed : goal.search_all-requires-clause-closed
search_all-requires-clause-closed c =
    loop_on c.atlas_laws.ensures.growth c.args.atlas.now c.further_stages.new.atlas c.args.word.now
    c.in_ok-stages.ensures.grows c.base.ensures.sound.base c.requires.closed

pub search_all-requires-clause-stages : goal.search_all-requires-clause-stages
search_all-requires-clause-stages c =
    subst (AreFurtherStages c.further_stages.new.atlas c.args.word.now c.args.budget) (sym c.deref.ensures.value)
    c.in_ok-stages.ensures.stages

pub returns-clause-answer : goal.returns-clause-answer
returns-clause-answer c =
    backward c.atlas_laws.ensures.growth c.args.atlas.now c.further_stages.new.atlas c.args.word.now
    c.in_ok-stages.ensures.grows c.base.ensures.sound.base c.requires.closed
    (λ ts ms. IfOk c.search_all.result (IsTracksAnswer ts ms c.args.budget)) c.search_all.ensures.answer

pub returns-clause-holds : goal.returns-clause-holds
returns-clause-holds c =
    backward c.atlas_laws.ensures.growth c.args.atlas.now c.further_stages.new.atlas c.args.word.now
    c.in_ok-stages.ensures.grows c.base.ensures.sound.base c.requires.closed
    (λ ts ms. IfOk c.search_all.result (HoldsWhereFound ts ms)) c.search_all.ensures.holds
