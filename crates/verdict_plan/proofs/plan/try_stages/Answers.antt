use Rattle.std.proofs.Common.{refl}
use Rattle.tri_atlas.specs.Arena.{triangulation}
use Rattle.tri_atlas.specs.Paths.{moves_of}
use Rattle.verdict_plan.specs.AllCandidates.{AreFailedCurves, AreFailedTracks}
use Rattle.verdict_plan.specs.Verdicts.{HasNoOrder}
use Rattle.verdict_plan.proofs.GrownBase.{onward}
use Rattle.verdict_plan.proofs.Sound.{reducible_sound, track_sound}
use Rattle.verdict_plan.proofs.plan.try_stages.Goals as goal

pub returns-in_ok-reducible-in-Found-clause-sound : goal.returns-in_ok-reducible-in-Found-clause-sound
returns-in_ok-reducible-in-Found-clause-sound c =
    let answer = rw c.in-Found.is at c.in_ok-coords.ensures.answer in
    let found = rw c.in-Found.is at c.in_ok-coords.ensures.found in
    reducible_sound (triangulation c.args.atlas.now 0) (moves_of c.args.atlas.now c.args.word.now) c.args.budget.now
    (c.base.ensures.sound.sound 0 c.base.ensures.sound.base) c.certificate_laws.ensures c.args.atlas.now refl
    c.power_laws.ensures c.requires.no_order _ c.in-Found.number c.in-Found.coords c.in_ok-reducible-in-Found.ensures
    answer found

pub returns-in-Found-found-clause-sound : goal.returns-in-Found-found-clause-sound
returns-in-Found-found-clause-sound c =
    let curves = rw c.in-None.is at c.in_ok-coords.ensures.answer in
    let answer = rw c.in-Found-found.is at c.in_ok-found-in-None.ensures.answer in
    let holds = rw c.in-Found-found.is at c.in_ok-found-in-None.ensures.holds in
    track_sound (triangulation c.args.atlas.now 0) (moves_of c.args.atlas.now c.args.word.now) c.args.budget.now
    (c.base.ensures.sound.sound 0 c.base.ensures.sound.base) c.certificate_laws.ensures c.requires.no_order
    c.in-None.curves.items curves c.in-Found-found.number c.in-Found-found.pa answer holds

pub without_verdict-requires-clause-no_order : goal.without_verdict-requires-clause-no_order
without_verdict-requires-clause-no_order c =
    onward c.atlas_laws.ensures.growth c.args.atlas.now c.search_all.new.atlas c.args.word.now
    c.in_ok-found-in-None.ensures.grows c.base.ensures.sound.base c.requires.closed
    (λ ts ms. HasNoOrder ts ms c.args.budget.now.powers) c.requires.no_order

pub without_verdict-requires-clause-curves : goal.without_verdict-requires-clause-curves
without_verdict-requires-clause-curves c =
    let curves = rw c.in-None.is at c.in_ok-coords.ensures.answer in
    onward c.atlas_laws.ensures.growth c.args.atlas.now c.search_all.new.atlas c.args.word.now
    c.in_ok-found-in-None.ensures.grows c.base.ensures.sound.base c.requires.closed
    (λ ts ms. AreFailedCurves ts ms c.args.budget.now.curves c.in-None.curves.items) curves

pub without_verdict-requires-clause-tracks : goal.without_verdict-requires-clause-tracks
without_verdict-requires-clause-tracks c =
    let answer = rw c.in-None-found.is at c.in_ok-found-in-None.ensures.answer in
    onward c.atlas_laws.ensures.growth c.args.atlas.now c.search_all.new.atlas c.args.word.now
    c.in_ok-found-in-None.ensures.grows c.base.ensures.sound.base c.requires.closed
    (λ ts ms. AreFailedTracks ts ms c.args.budget.now.tracks c.in-None-found.tracks.items) answer
