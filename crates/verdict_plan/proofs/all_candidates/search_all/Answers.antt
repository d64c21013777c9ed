use Rattle.std.proofs.Common.{◌≡◌, ◌<◌, ◌*◌, ◌∙◌, ℕ, ℤ, List, IfOk, length, min, ap, sym, subst, inl}
use Rattle.std.proofs.lemmas.List.{length-map}
use Rattle.tri_atlas.specs.Arena.{triangulation}
use Rattle.tri_atlas.specs.Paths.{moves_of}
use Rattle.free_groupoid.specs.Walks.{DualWalk}
use Rattle.train_track.specs.Branches.{words_of}
use Rattle.multicurve_cert.specs.Cycles.{AreCycles}
use Rattle.verdict_plan.specs.AllCandidates.{IsTracksAnswer}
use Rattle.verdict_plan.specs.FirstTracks.{HoldsWhereFound, track_count, track_kinds}
use Rattle.verdict_plan.specs.inside.QuickAnswers.{AreFailing}
use Rattle.verdict_plan.proofs.CycleWalks.{given_cycles}
use Rattle.verdict_plan.proofs.GrownBase.{backward, loop_on, onward}
use Rattle.verdict_plan.proofs.GrownStages.{further_stages_on}
use Rattle.verdict_plan.proofs.all_candidates.search_all.Goals as goal

pub search_first-requires-clause-cycles : goal.search_first-requires-clause-cycles
search_first-requires-clause-cycles c =
    given_cycles (triangulation c.args.atlas.now 0) c.tri.result.now c.in_ok-found.ensures.all.0
    c.in_ok-found.found.items c.as_slice-cycles.result.now
    (c.tri.ensures.value ∙ ap (triangulation c.args.atlas.now) c.base-2.ensures.number) c.as_slice-cycles.ensures.value
    c.in_ok-found.ensures.all.1

pub search_first-requires-clause-some : goal.search_first-requires-clause-some
search_first-requires-clause-some c =
    subst (λ (ws : List DualWalk). 0 < length ws) (sym c.as_slice-cycles.ensures.value) c.in_ok-found.ensures.some

pub returns-in-Found-clause-answer : goal.returns-in-Found-clause-answer
returns-in-Found-clause-answer c =
    let answer = rw c.in-Found.is at c.in_ok-number.ensures.answer in
    inl answer

pub returns-in-Found-clause-holds : goal.returns-in-Found-clause-holds
returns-in-Found-clause-holds c =
    let holds = rw c.in-Found.is at c.in_ok-number.ensures.holds in
    holds

pub search_behind-requires-clause-closed : goal.search_behind-requires-clause-closed
search_behind-requires-clause-closed c =
    loop_on c.atlas_laws.ensures.growth c.args.atlas.now c.search_first.new.atlas c.args.word.now
    c.search_first.ensures.grows c.base.ensures.sound.base c.requires.closed

pub search_behind-requires-clause-stages : goal.search_behind-requires-clause-stages
search_behind-requires-clause-stages c =
    further_stages_on c.atlas_laws.ensures.growth c.stage_laws.ensures c.args.atlas.now c.search_first.new.atlas
    c.args.word.now
    c.search_first.ensures.grows c.base.ensures.sound.base c.requires.closed c.args.budget c.args.stages.now
    c.requires.stages

pub search_behind-requires-clause-cycles : goal.search_behind-requires-clause-cycles
search_behind-requires-clause-cycles c =
    onward c.atlas_laws.ensures.growth c.args.atlas.now c.search_first.new.atlas c.args.word.now
    c.search_first.ensures.grows c.base.ensures.sound.base c.requires.closed
    (λ ts ms. AreCycles ts (words_of c.as_slice-cycles.result.now))
    (given_cycles (triangulation c.args.atlas.now 0) c.tri.result.now c.in_ok-found.ensures.all.0
    c.in_ok-found.found.items c.as_slice-cycles.result.now
    (c.tri.ensures.value ∙ ap (triangulation c.args.atlas.now) c.base-2.ensures.number) c.as_slice-cycles.ensures.value
    c.in_ok-found.ensures.all.1)

pub search_behind-requires-clause-some : goal.search_behind-requires-clause-some
search_behind-requires-clause-some c =
    subst (λ (ws : List DualWalk). 0 < length ws) (sym c.as_slice-cycles.ensures.value) c.in_ok-found.ensures.some

-- so many candidates as there are
counted : (walks : List DualWalk) (budget count : ℕ) → count ≡ min budget (track_kinds * length walks)
    → count ≡ track_count (words_of walks) budget
counted walks budget count is =
    is ∙ ap (λ (m : ℕ). min budget (track_kinds * m)) (sym (length-map walks (λ (v : DualWalk). v.letters)))

pub search_behind-requires-clause-count : goal.search_behind-requires-clause-count
search_behind-requires-clause-count c =
    counted c.as_slice-cycles.result.now c.args.budget c.track_count-count.result c.track_count-count.ensures

pub search_behind-requires-clause-first : goal.search_behind-requires-clause-first
search_behind-requires-clause-first c =
    let answer = rw c.in-None.is at c.in_ok-number.ensures.answer in
    subst
    (λ (n : ℕ). AreFailing (triangulation c.search_first.new.atlas 0) (moves_of c.search_first.new.atlas c.args.word.now)
    c.args.budget n c.in-None.log.items)
    (sym (counted c.as_slice-cycles.result.now c.args.budget c.track_count-count.result c.track_count-count.ensures))
    (onward c.atlas_laws.ensures.growth c.args.atlas.now c.search_first.new.atlas c.args.word.now
    c.search_first.ensures.grows c.base.ensures.sound.base c.requires.closed
    (λ ts ms. AreFailing ts ms c.args.budget (track_count (words_of c.as_slice-cycles.result.now) c.args.budget)
    c.in-None.log.items) answer)

pub returns-clause-answer : goal.returns-clause-answer
returns-clause-answer c =
    backward c.atlas_laws.ensures.growth c.args.atlas.now c.search_first.new.atlas c.args.word.now
    c.search_first.ensures.grows c.base.ensures.sound.base c.requires.closed
    (λ ts ms. IfOk c.search_behind.result (IsTracksAnswer ts ms c.args.budget)) c.search_behind.ensures.answer

pub returns-clause-holds : goal.returns-clause-holds
returns-clause-holds c =
    backward c.atlas_laws.ensures.growth c.args.atlas.now c.search_first.new.atlas c.args.word.now
    c.search_first.ensures.grows c.base.ensures.sound.base c.requires.closed
    (λ ts ms. IfOk c.search_behind.result (HoldsWhereFound ts ms)) c.search_behind.ensures.holds
