use Rattle.std.proofs.Common.{◌≡◌, ◌<◌, ℕ, ℤ, List, sym, subst, arith}
use Rattle.tri_atlas.specs.Arena.{triangulation, Grows}
use Rattle.tri_atlas.specs.Moves.{Move}
use Rattle.tri_atlas.specs.Paths.{moves_of}
use Rattle.cert_text.specs.Certificates.{track_seen}
use Rattle.cert_text.specs.declared.lines.TrackLine.{TrackLine}
use Rattle.verdict_plan.specs.FurtherTracks.{Site, further_count, further_power}
use Rattle.verdict_plan.specs.inside.FurtherSites.{IsLineFrom, PassesFrom}
use Rattle.verdict_plan.specs.inside.FurtherStages.{AreLinesFrom, sites_of, start_of}
use Rattle.verdict_plan.proofs.GrownBase.{loop_on}
use Rattle.verdict_plan.proofs.FurtherLines.{first_further, further_lines, lines_more, said_before, said_now}
use Rattle.verdict_plan.proofs.FurtherLines.{short_grown, starts}
use Rattle.verdict_plan.proofs.further_search.search_further.Goals as goal

pub outcome_of-requires-clause-stages : goal.outcome_of-requires-clause-stages
outcome_of-requires-clause-stages c =
    short_grown c.stage_laws.ensures c.args.atlas.now c.loop-n.atlas c.loop-n.invariant.grows c.args.stages.now
    (record {
      some = c.requires.stages.1.some;
      kept = c.requires.stages.1.kept;
      short = c.requires.stages.1.short;
    })

pub outcome_of-requires-clause-log : goal.outcome_of-requires-clause-log
outcome_of-requires-clause-log c =
    subst
    (AreLinesFrom (triangulation c.loop-n.atlas 0) (moves_of c.loop-n.atlas c.args.word.now)
    (sites_of c.loop-n.atlas c.args.stages.now) c.loop-n.n) (sym c.deref.ensures.value)
    (said_now c.stage_laws.ensures c.atlas_laws.ensures.growth c.args.atlas.now c.loop-n.atlas c.args.word.now
    c.loop-n.invariant.grows c.base.ensures.sound.base c.requires.closed c.args.stages.now c.requires.stages.1.kept
    (λ ts ms ss. AreLinesFrom ts ms ss c.loop-n.n c.loop-n.log.items) c.loop-n.invariant.lines)

pub returns-in-Ok-clause-answer : goal.returns-in-Ok-clause-answer
returns-in-Ok-clause-answer c w are =
    let base : List (List ℤ) = triangulation c.args.atlas.now 0 in
    let moves : List Move = moves_of c.args.atlas.now c.args.word.now in
    let sites : List Site = sites_of c.args.atlas.now c.args.stages.now in
    let tried = c.in_ok-pa.ensures.outcome in
    let pass = rw c.in-Ok.is at tried in
    first_further base moves w sites (starts c.args.atlas.now base moves w c.args.stages.now are) c.loop-n.n
    c.loop-n.log.items (track_seen c.in-Ok.pa) (omega (arith, c.loop-n-test.true)) c.loop-n.invariant.lines
    (said_before c.stage_laws.ensures c.atlas_laws.ensures.growth c.args.atlas.now c.loop-n.atlas c.args.word.now
    c.loop-n.invariant.grows c.base.ensures.sound.base c.requires.closed c.args.stages.now c.requires.stages.1.kept
    (λ ts ms ss. PassesFrom ts ms (further_power c.loop-n.n) (start_of ss c.loop-n.n) (track_seen c.in-Ok.pa)) pass)

pub returns-in-Ok-clause-holds : goal.returns-in-Ok-clause-holds
returns-in-Ok-clause-holds c =
    let tried = c.in_ok-pa.ensures.outcome in
    let pass = rw c.in-Ok.is at tried in
    (said_before c.stage_laws.ensures c.atlas_laws.ensures.growth c.args.atlas.now c.loop-n.atlas c.args.word.now
    c.loop-n.invariant.grows c.base.ensures.sound.base c.requires.closed c.args.stages.now c.requires.stages.1.kept
    (λ ts ms ss. PassesFrom ts ms (further_power c.loop-n.n) (start_of ss c.loop-n.n) (track_seen c.in-Ok.pa))
    pass).holds

pub loop-n-preserved : goal.loop-n-preserved
loop-n-preserved c =
    let base : List (List ℤ) = triangulation c.args.atlas.now 0 in
    let moves : List Move = moves_of c.args.atlas.now c.args.word.now in
    let sites : List Site = sites_of c.args.atlas.now c.args.stages.now in
    let grown : Grows c.args.atlas.now c.outcome_of.new.atlas =
    c.atlas_laws.ensures.growth.further _ _ _ c.loop-n.invariant.grows c.in_ok-pa.ensures.grows in
    let tried = c.in_ok-pa.ensures.outcome in
    let line = rw c.in-Err.is at tried in
    record {
      grows = grown;
      closed = loop_on c.atlas_laws.ensures.growth c.args.atlas.now c.outcome_of.new.atlas c.args.word.now grown
          c.base.ensures.sound.base c.requires.closed;
      lines = lines_more base moves sites c.loop-n.n c.in-Err.line c.loop-n.log.items c.push.new.self.items
          c.in_ok-push-in-Err.ensures.items c.loop-n.invariant.lines
          (said_before c.stage_laws.ensures c.atlas_laws.ensures.growth c.args.atlas.now c.loop-n.atlas
          c.args.word.now c.loop-n.invariant.grows c.base.ensures.sound.base c.requires.closed c.args.stages.now
          c.requires.stages.1.kept
          (λ ts ms ss. IsLineFrom ts ms (further_power c.loop-n.n) (start_of ss c.loop-n.n) c.in-Err.line) line);
    }

pub returns-clause-answer : goal.returns-clause-answer
returns-clause-answer c w are =
    let base : List (List ℤ) = triangulation c.args.atlas.now 0 in
    let moves : List Move = moves_of c.args.atlas.now c.args.word.now in
    let sites : List Site = sites_of c.args.atlas.now c.args.stages.now in
    let all : c.loop-n.n ≡ further_count = omega (arith, c.loop-n-test.false, c.loop-n.auto.n-end) in
    further_lines base moves w sites (starts c.args.atlas.now base moves w c.args.stages.now are) c.loop-n.log.items
    (subst (λ (n : ℕ). AreLinesFrom base moves sites n c.loop-n.log.items) all c.loop-n.invariant.lines)
