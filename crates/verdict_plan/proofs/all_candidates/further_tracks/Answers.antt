use Rattle.std.proofs.Common.{◌≡◌, ◌<◌, ◌≤◌, ◌+◌, ◌++◌, ◌∙◌, ℕ, ℤ, List, length, sym, ap, subst, inl, arith, rules}
use Rattle.tri_atlas.specs.Arena.{triangulation}
use Rattle.tri_atlas.specs.Paths.{moves_of}
use Rattle.tri_atlas.specs.Moves.{Move}
use Rattle.cert_text.specs.Certificates.{track_seen}
use Rattle.cert_text.specs.declared.lines.TrackLine.{TrackLine}
use Rattle.verdict_plan.specs.AllCandidates.{IsFoundTrack, further_budget}
use Rattle.verdict_plan.proofs.GrownStages.{none_of_empty, open_of_some}
use Rattle.verdict_plan.proofs.JoinedLists.{all_tracks_fail, further_track_passes, tracks_alone, tracks_within}
use Rattle.verdict_plan.proofs.all_candidates.further_tracks.Goals as goal

pub returns-then-budget-lt-FURTHER_BUDGET-clause-answer : goal.returns-then-budget-lt-FURTHER_BUDGET-clause-answer
returns-then-budget-lt-FURTHER_BUDGET-clause-answer c first fail =
    tracks_alone (triangulation c.args.atlas.now 0) (moves_of c.args.atlas.now c.args.word.now) c.args.budget first fail
    _ (inl c.if-budget-lt-FURTHER_BUDGET.true) (search rules)

pub returns-then-is_empty-clause-answer : goal.returns-then-is_empty-clause-answer
returns-then-is_empty-clause-answer c first fail =
    let empty : length c.args.stages.now ≡ 0 = search rules in
    tracks_alone (triangulation c.args.atlas.now 0) (moves_of c.args.atlas.now c.args.word.now) c.args.budget first fail
    _ (none_of_empty c.args.atlas.now c.args.word.now c.args.budget c.args.stages.now empty c.requires.stages)
    (search rules)

pub search_further-requires-clause-stages : goal.search_further-requires-clause-stages
search_further-requires-clause-stages c =
    let some : 0 < length c.args.stages.now = search rules in
    let opened = open_of_some c.args.atlas.now c.args.word.now c.args.budget c.args.stages.now some c.requires.stages in
    (opened.vector, opened.are_stages)

pub number_behind-requires-clause-first : goal.number_behind-requires-clause-first
number_behind-requires-clause-first c =
    let (lines, fail, many) = c.requires.first in
    let few : length lines ≤ c.args.budget =
    tracks_within (triangulation c.args.atlas.now 0) (moves_of c.args.atlas.now c.args.word.now) c.args.budget
    lines fail in
    omega (arith, many, few, c.requires.budget)

pub number_behind-requires-clause-number : goal.number_behind-requires-clause-number
number_behind-requires-clause-number c =
    let some : 0 < length c.args.stages.now = search rules in
    let opened = open_of_some c.args.atlas.now c.args.word.now c.args.budget c.args.stages.now some c.requires.stages in
    let told = c.in_ok-number.ensures.answer opened.vector opened.are_stages in
    let answer = rw c.in-Found.is at told in
    let few = answer.within in omega arith

pub returns-in-Found-clause-answer : goal.returns-in-Found-clause-answer
returns-in-Found-clause-answer c =
    let some : 0 < length c.args.stages.now = search rules in
    let opened = open_of_some c.args.atlas.now c.args.word.now c.args.budget c.args.stages.now some c.requires.stages in
    let (lines, fail, many) = c.requires.first in
    let number : c.number_behind.result ≡ length lines + c.in-Found.number =
    omega (arith, c.number_behind.ensures, many) in
    let enough : further_budget ≤ c.args.budget = omega (arith, c.if-budget-lt-FURTHER_BUDGET.false) in
    let told = c.in_ok-number.ensures.answer opened.vector opened.are_stages in
    let answer = rw c.in-Found.is at told in
    subst
    (λ (n : ℕ). IsFoundTrack (triangulation c.args.atlas.now 0) (moves_of c.args.atlas.now c.args.word.now)
    c.args.budget n
    (track_seen c.in-Found.pa))
    (sym number)
    (further_track_passes (triangulation c.args.atlas.now 0) (moves_of c.args.atlas.now c.args.word.now) c.args.budget
    lines fail opened.vector enough opened.open_cycle c.in-Found.number (track_seen c.in-Found.pa) answer)

pub returns-in-Found-clause-holds : goal.returns-in-Found-clause-holds
returns-in-Found-clause-holds c =
    let holds = rw c.in-Found.is at c.in_ok-number.ensures.holds in
    holds

pub returns-in-None-clause-answer : goal.returns-in-None-clause-answer
returns-in-None-clause-answer c first fail =
    let some : 0 < length c.args.stages.now = search rules in
    let opened = open_of_some c.args.atlas.now c.args.word.now c.args.budget c.args.stages.now some c.requires.stages in
    let enough : further_budget ≤ c.args.budget = omega (arith, c.if-budget-lt-FURTHER_BUDGET.false) in
    let told = c.in_ok-number.ensures.answer opened.vector opened.are_stages in
    let answer = rw c.in-None.is at told in
    all_tracks_fail (triangulation c.args.atlas.now 0) (moves_of c.args.atlas.now c.args.word.now) c.args.budget
    first fail opened.vector enough opened.open_cycle c.in-None.log.items answer
