use Rattle.std.proofs.Common.{◌≡◌, ◌<◌, ◌*◌, ◌%◌, ◌∙◌, ℕ, ℤ, List, length, min, ap, subst, sym, arith}
use Rattle.std.proofs.lemmas.List.{length-map}
use Rattle.std.proofs.Math.Nat.{mod-lt}
use Rattle.tri_atlas.specs.Arena.{Grows, triangulation}
use Rattle.tri_atlas.specs.Paths.{moves_of}
use Rattle.free_groupoid.specs.Walks.{DualWalk}
use Rattle.train_track.specs.Branches.{words_of}
use Rattle.multicurve_cert.specs.Cycles.{AreCycles}
use Rattle.cert_text.specs.Certificates.{track_seen}
use Rattle.verdict_plan.specs.FirstTracks.{track_count, track_kinds}
use Rattle.verdict_plan.specs.inside.Known.{AreKnown}
use Rattle.verdict_plan.proofs.Grown.{base_same, loop_kept, here_too, here_before}
use Rattle.verdict_plan.proofs.SiteTurns.{cycle_there, sites_more}
use Rattle.verdict_plan.proofs.TracksTried.{all_failing, first_track, holds_tried, line_added, line_tried, passes_tried}
use Rattle.verdict_plan.proofs.TracksTried.{site_tried, some_more, told_line}
use Rattle.verdict_plan.proofs.track_search.search_first.Goals as goal

pub returns-in-Ok-clause-answer : goal.returns-in-Ok-clause-answer
returns-in-Ok-clause-answer c =
    let grown : Grows c.args.atlas.now c.next_site.new.atlas =
    c.atlas_laws.ensures.growth.further _ _ _ c.loop-n.invariant.grows c.in_ok-site.ensures.grows in
    let words : List (List ℤ) = words_of c.args.cycles.now in
    let many : length words ≡ length c.args.cycles.now = length-map c.args.cycles.now (λ (v : DualWalk). v.letters) in
    let tried = c.in_ok-trial.ensures.trial.outcome in
    let pass = rw c.in-Ok.is at tried in
    let within : c.loop-n.n < track_count words c.args.budget =
    subst (λ (m : ℕ). c.loop-n.n < min c.args.budget (track_kinds * m)) (sym many)
    (subst (λ (m : ℕ). c.loop-n.n < m) c.track_count-count.ensures c.loop-n-test.true) in
    first_track (triangulation c.args.atlas.now 0) (moves_of c.args.atlas.now c.args.word.now) words c.loop-n.n
    c.loop-n.invariant.lines.lines c.loop-n.invariant.lines.are c.requires.cycles c.args.budget (track_seen c.in-Ok.pa)
    within
    (passes_tried c.args.atlas.now c.next_site.new.atlas c.atlas_laws.ensures.growth grown
    c.atlas_laws.ensures.handles c.base.ensures.sound c.args.word.now c.requires.closed c.args.cycles.now c.loop-n.n
    c.in_ok-site.site c.in_ok-site.ensures.site (track_seen c.in-Ok.pa) pass)

pub returns-in-Ok-clause-holds : goal.returns-in-Ok-clause-holds
returns-in-Ok-clause-holds c =
    let grown : Grows c.args.atlas.now c.next_site.new.atlas =
    c.atlas_laws.ensures.growth.further _ _ _ c.loop-n.invariant.grows c.in_ok-site.ensures.grows in
    let tried = c.in_ok-trial.ensures.trial.outcome in
    let pass = rw c.in-Ok.is at tried in
    let few : c.loop-n.n < min c.args.budget (track_kinds * length c.args.cycles.now) =
    subst (λ (m : ℕ). c.loop-n.n < m) c.track_count-count.ensures c.loop-n-test.true in
    let below : c.loop-n.n < track_kinds * length c.args.cycles.now = omega (arith, few) in
    holds_tried c.args.atlas.now c.next_site.new.atlas c.atlas_laws.ensures.growth grown
    c.atlas_laws.ensures.handles c.base.ensures.sound c.args.word.now c.requires.closed c.args.cycles.now c.loop-n.n
    c.in_ok-site.site c.in_ok-site.ensures.site (track_seen c.in-Ok.pa) pass c.pass_law.ensures c.requires.some below

pub returns-in-Ok-clause-grows : goal.returns-in-Ok-clause-grows
returns-in-Ok-clause-grows c =
    c.atlas_laws.ensures.growth.further _ _ _ c.loop-n.invariant.grows c.in_ok-site.ensures.grows

pub loop-n-preserved : goal.loop-n-preserved
loop-n-preserved c =
    let grown : Grows c.args.atlas.now c.next_site.new.atlas =
    c.atlas_laws.ensures.growth.further _ _ _ c.loop-n.invariant.grows c.in_ok-site.ensures.grows in
    let words : List (List ℤ) = words_of c.args.cycles.now in
    let tried = c.in_ok-trial.ensures.trial.outcome in
    let fails = rw c.in-Err.is at tried in
    let told = told_line c.next_site.new.atlas c.args.word.now c.in_ok-site.site.stage _ c.in-Err.line fails in
    record {
      grows = grown;
      closed = loop_kept c.args.atlas.now c.next_site.new.atlas c.atlas_laws.ensures.growth grown
          c.atlas_laws.ensures.handles c.base.ensures.sound c.args.word.now c.requires.closed;
      cycles = subst (λ (ts : List (List ℤ)). AreCycles ts words)
          (base_same c.args.atlas.now c.next_site.new.atlas c.atlas_laws.ensures.growth grown
          c.atlas_laws.ensures.handles c.base.ensures.sound c.args.word.now c.requires.closed) c.requires.cycles;
      sites = sites_more c.next_site.new.atlas c.args.word.now words c.loop-n.n c.next_site.new.sites.items
          c.in_ok-trial.trial.site c.push_back.new.self.items c.in_ok-site.ensures.sites
          (site_tried c.next_site.new.atlas c.args.word.now c.args.cycles.now c.loop-n.n c.in_ok-site.site
          c.in_ok-site.ensures.site c.in_ok-trial.trial c.in_ok-trial.ensures.trial)
          c.in_ok-push_back.ensures.items;
      known = here_before c.args.atlas.now c.next_site.new.atlas c.atlas_laws.ensures.growth grown
          c.atlas_laws.ensures.handles c.base.ensures.sound c.args.word.now c.requires.closed
          (λ ts ms. AreKnown ts ms c.try_turn.new.known.items) c.in_ok-trial.ensures.known;
      lines = some_more (triangulation c.args.atlas.now 0) (moves_of c.args.atlas.now c.args.word.now) words c.loop-n.n
          c.loop-n.log.items c.push_line.new.log.items c.in-Err.line told.0 c.loop-n.invariant.lines
          (line_tried c.args.atlas.now c.next_site.new.atlas c.atlas_laws.ensures.growth grown
          c.atlas_laws.ensures.handles c.base.ensures.sound c.args.word.now c.requires.closed c.args.cycles.now
          c.loop-n.n c.in_ok-site.site c.in_ok-site.ensures.site told.0 told.1)
          told.2 c.in_ok-push_line-in-Err.ensures.some c.in_ok-push_line-in-Err.ensures.none;
      exact = λ exact.
          let is_told = c.in_ok-trial.ensures.told exact in
          let has = rw c.in-Err.is at is_told in
          line_added c.loop-n.n c.loop-n.log.items c.push_line.new.log.items c.in-Err.line has
          (c.loop-n.invariant.exact exact) c.in_ok-push_line-in-Err.ensures.some;
    }

pub try_turn-requires-clause-known : goal.try_turn-requires-clause-known
try_turn-requires-clause-known c =
    let grown : Grows c.args.atlas.now c.next_site.new.atlas =
    c.atlas_laws.ensures.growth.further _ _ _ c.loop-n.invariant.grows c.in_ok-site.ensures.grows in
    here_too c.args.atlas.now c.next_site.new.atlas c.atlas_laws.ensures.growth grown
    c.atlas_laws.ensures.handles c.base.ensures.sound c.args.word.now c.requires.closed
    (λ ts ms. AreKnown ts ms c.loop-n.known.items) c.loop-n.invariant.known

pub try_turn-requires-clause-cycle : goal.try_turn-requires-clause-cycle
try_turn-requires-clause-cycle c =
    let grown : Grows c.args.atlas.now c.next_site.new.atlas =
    c.atlas_laws.ensures.growth.further _ _ _ c.loop-n.invariant.grows c.in_ok-site.ensures.grows in
    let words : List (List ℤ) = words_of c.args.cycles.now in
    let are : AreCycles (triangulation c.next_site.new.atlas 0) words =
    subst (λ (ts : List (List ℤ)). AreCycles ts words)
    (base_same c.args.atlas.now c.next_site.new.atlas c.atlas_laws.ensures.growth grown
    c.atlas_laws.ensures.handles c.base.ensures.sound c.args.word.now c.requires.closed) c.requires.cycles in
    cycle_there (triangulation c.next_site.new.atlas 0) c.args.cycles.now (c.loop-n.n % length c.args.cycles.now)
    c.index-cycles-n.result (mod-lt c.loop-n.n c.requires.some) c.index-cycles-n.is are.each

pub returns-clause-answer : goal.returns-clause-answer
returns-clause-answer c =
    let words : List (List ℤ) = words_of c.args.cycles.now in
    let many : length words ≡ length c.args.cycles.now = length-map c.args.cycles.now (λ (v : DualWalk). v.letters) in
    let count : c.track_count-count.result ≡ track_count words c.args.budget =
    c.track_count-count.ensures ∙ ap (λ (m : ℕ). min c.args.budget (track_kinds * m)) (sym many) in
    let full : c.loop-n.n ≡ track_count words c.args.budget = omega (arith, count, c.loop-n.auto.n-end, c.loop-n-test.false) in
    all_failing (triangulation c.args.atlas.now 0) (moves_of c.args.atlas.now c.args.word.now) words c.args.budget
    c.loop-n.n c.loop-n.log.items c.requires.cycles c.loop-n.invariant.lines full
