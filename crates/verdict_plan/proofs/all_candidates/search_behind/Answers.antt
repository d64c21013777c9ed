use Rattle.std.proofs.Common.{◌≡◌, ◌∙◌, ◌++◌, ℤ, List, length, ap, refl, sym, subst, inl, rules}
use Rattle.tri_atlas.specs.Arena.{Grows, triangulation}
use Rattle.tri_atlas.specs.Paths.{moves_of}
use Rattle.train_track.specs.Branches.{words_of}
use Rattle.multicurve_cert.specs.Cycles.{AreCycles}
use Rattle.cert_text.specs.Certificates.{track_seen}
use Rattle.cert_text.specs.declared.lines.TrackLine.{TrackLine}
use Rattle.verdict_plan.specs.AllCandidates.{AreFailedTracks}
use Rattle.cert_text.specs.PseudoAnosov.{IsPseudoAnosovCertificate}
use Rattle.verdict_plan.specs.FirstTracks.{IsFirstTrack, track_count}
use Rattle.verdict_plan.specs.inside.QuickAnswers.{AreFailing}
use Rattle.verdict_plan.proofs.GrownBase.{backward, loop_on, onward}
use Rattle.verdict_plan.proofs.all_candidates.search_behind.Goals as goal

pub further_tracks-requires-clause-first : goal.further_tracks-requires-clause-first
further_tracks-requires-clause-first c =
    (c.requires.first.lines, c.requires.first.are, c.requires.first.many)

pub returns-in-Found-clause-answer : goal.returns-in-Found-clause-answer
returns-in-Found-clause-answer c =
    let answer = rw c.in-Found.is at c.in_ok-number.ensures.answer in
    answer

pub returns-in-Found-clause-holds : goal.returns-in-Found-clause-holds
returns-in-Found-clause-holds c =
    let holds = rw c.in-Found.is at c.in_ok-number.ensures.holds in
    holds

pub search_first-requires-clause-closed : goal.search_first-requires-clause-closed
search_first-requires-clause-closed c =
    loop_on c.atlas_laws.ensures.growth c.args.atlas.now c.further_tracks.new.atlas c.args.word.now
    c.further_tracks.ensures.grows c.base.ensures.sound.base c.requires.closed

pub search_first-requires-clause-cycles : goal.search_first-requires-clause-cycles
search_first-requires-clause-cycles c =
    onward c.atlas_laws.ensures.growth c.args.atlas.now c.further_tracks.new.atlas c.args.word.now
    c.further_tracks.ensures.grows c.base.ensures.sound.base c.requires.closed
    (λ ts ms. AreCycles ts (words_of c.args.cycles.now)) c.requires.cycles

pub returns-then-len-count-clause-answer : goal.returns-then-len-count-clause-answer
returns-then-len-count-clause-answer c =
    let answer = rw c.in-None.is at c.in_ok-number.ensures.answer in
    let full : length c.args.log.items ≡ c.args.count = search rules in
    subst (AreFailedTracks (triangulation c.args.atlas.now 0) (moves_of c.args.atlas.now c.args.word.now) c.args.budget)
    (sym (c.in_ok-joined-in-None.ensures
    ∙ ap (λ (ls : List TrackLine). ls ++ c.deref.result.now) (c.requires.first.whole full)
    ∙ ap (λ (ls : List TrackLine). c.requires.first.lines ++ ls) c.deref.ensures.value))
    (answer c.requires.first.lines c.requires.first.are)

pub returns-in-Found-2-clause-answer : goal.returns-in-Found-2-clause-answer
returns-in-Found-2-clause-answer c =
    let answer = rw c.in-Found-2.is at c.in_ok-number-in-None.ensures.answer in
    inl (backward c.atlas_laws.ensures.growth c.args.atlas.now c.further_tracks.new.atlas c.args.word.now
    c.further_tracks.ensures.grows c.base.ensures.sound.base c.requires.closed
    (λ ts ms. IsFirstTrack ts ms c.args.budget c.in-Found-2.number (track_seen c.in-Found-2.pa)) answer)

pub returns-in-Found-2-clause-holds : goal.returns-in-Found-2-clause-holds
returns-in-Found-2-clause-holds c =
    let holds = rw c.in-Found-2.is at c.in_ok-number-in-None.ensures.holds in
    backward c.atlas_laws.ensures.growth c.args.atlas.now c.further_tracks.new.atlas c.args.word.now
    c.further_tracks.ensures.grows c.base.ensures.sound.base c.requires.closed
    (λ ts ms. IsPseudoAnosovCertificate ts ms (track_seen c.in-Found-2.pa)) holds

pub returns-clause-answer : goal.returns-clause-answer
returns-clause-answer c =
    let answer = rw c.in-None.is at c.in_ok-number.ensures.answer in
    let quick = rw c.in-None-2.is at c.in_ok-number-in-None.ensures.answer in
    let long = rw c.in-None-2.is at (c.in_ok-number-in-None.ensures.exact refl) in
    let here : AreFailing (triangulation c.args.atlas.now 0) (moves_of c.args.atlas.now c.args.word.now) c.args.budget
    (track_count (words_of c.args.cycles.now) c.args.budget) c.in-None-2.log.items =
    backward c.atlas_laws.ensures.growth c.args.atlas.now c.further_tracks.new.atlas c.args.word.now
    c.further_tracks.ensures.grows c.base.ensures.sound.base c.requires.closed
    (λ ts ms. AreFailing ts ms c.args.budget (track_count (words_of c.args.cycles.now) c.args.budget)
    c.in-None-2.log.items) quick in
    subst (AreFailedTracks (triangulation c.args.atlas.now 0) (moves_of c.args.atlas.now c.args.word.now) c.args.budget)
    (sym (c.in_ok-joined-in-None-2.ensures
    ∙ ap (λ (ls : List TrackLine). ls ++ c.deref-in-None-2.result.now) (here.whole long)
    ∙ ap (λ (ls : List TrackLine). here.lines ++ ls) c.deref-in-None-2.ensures.value))
    (answer here.lines here.are)
