use Rattle.std.proofs.Common.{IfOk, ◌≡◌, ◌<◌, ◌+◌, ℕ, ℤ, List, length, inr, ap, subst, sym, arith}
use Rattle.tri_atlas.specs.Arena.{triangulation, Grows}
use Rattle.tri_atlas.specs.Moves.{Move}
use Rattle.tri_atlas.specs.Paths.{moves_of}
use Rattle.verdict_plan.specs.FurtherTracks.{Site, IsLineThere, IsRepaired, depths, most_tracks}
use Rattle.verdict_plan.specs.inside.FurtherSites.{IsOutcomeThere, site_of}
use Rattle.verdict_plan.proofs.GrownBase.{backward, loop_on}
use Rattle.verdict_plan.proofs.Reached.{flips_more, last_outcome, reached_first, reached_more, same_site}
use Rattle.verdict_plan.proofs.repairs.try_stage.Goals as goal

pub loop-init : goal.loop-init
loop-init c = record {
  grows = c.atlas_laws.ensures.growth.none c.args.atlas.now;
  closed = c.requires.closed;
  kept = c.stage_laws.ensures.same c.args.atlas.now c.args.stage.now c.in_ok-here.here c.requires.kept
      c.in_ok-here.ensures;
  short = subst (λ (es : List ℕ). length es < depths) (sym c.in_ok-here.ensures.edges) c.requires.short;
  reached = reached_first (triangulation c.args.atlas.now 0) (moves_of c.args.atlas.now c.args.word.now) c.args.power
      (site_of c.args.atlas.now c.args.stage.now) (site_of c.args.atlas.now c.in_ok-here.here)
      (same_site c.args.atlas.now c.args.stage.now c.in_ok-here.here c.in_ok-here.ensures);
}

pub returns-then-not-branch-clause-outcome : goal.returns-then-not-branch-clause-outcome
returns-then-not-branch-clause-outcome c =
    let last : Site = site_of c.loop.atlas c.loop.here in
    let there = c.in_ok-pa.ensures in
    let fails = rw c.in-Err.is at there in
    let told = c.in_ok-repair-in-Err.ensures.repaired in
    let ended = rw c.if-not-branch.true at told in
    record {
      repairs = c.loop.counter;
      last = last;
      few = omega (arith, c.loop-test.true);
      reached = c.loop.invariant.reached;
      fails = backward c.atlas_laws.ensures.growth c.args.atlas.now c.loop.atlas c.args.word.now
          c.loop.invariant.grows c.base.ensures.sound.base c.requires.closed
          (λ ts ms. IsLineThere ts ms c.args.power last c.in-Err.line) fails;
      ended = inr ended;
    }

pub loop-preserved : goal.loop-preserved
loop-preserved c =
    let old : Site = site_of c.loop.atlas c.loop.here in
    let new : Site = site_of c.repair.new.atlas c.repair.new.stage in
    let base : List (List ℤ) = triangulation c.args.atlas.now 0 in
    let moves : List Move = moves_of c.args.atlas.now c.args.word.now in
    let grown : Grows c.args.atlas.now c.repair.new.atlas =
    c.atlas_laws.ensures.growth.further _ _ _ c.loop.invariant.grows c.in_ok-repair-in-Err.ensures.grows in
    let told = c.in_ok-repair-in-Err.ensures.repaired in
    let made = rw c.if-not-branch.false at told in
    let repaired : IsRepaired base moves c.args.power old new =
    backward c.atlas_laws.ensures.growth c.args.atlas.now c.loop.atlas c.args.word.now
    c.loop.invariant.grows c.base.ensures.sound.base c.requires.closed
    (λ ts ms. IsRepaired ts ms c.args.power old new) made in
    record {
      grows = grown;
      closed = loop_on c.atlas_laws.ensures.growth c.args.atlas.now c.repair.new.atlas c.args.word.now grown
          c.base.ensures.sound.base c.requires.closed;
      kept = c.in_ok-repair-in-Err.ensures.kept;
      short = omega (
        arith,
        flips_more base moves c.args.power (site_of c.args.atlas.now c.args.stage.now) old new repaired,
        c.loop.invariant.short,
      );
      reached = reached_more base moves c.args.power (site_of c.args.atlas.now c.args.stage.now) c.loop.counter old new
          c.loop.invariant.reached repaired;
    }

pub returns-clause-outcome : goal.returns-clause-outcome
returns-clause-outcome c =
    let base : List (List ℤ) = triangulation c.args.atlas.now 0 in
    let moves : List Move = moves_of c.args.atlas.now c.args.word.now in
    let last : Site = site_of c.loop.atlas c.loop.here in
    let all : c.loop.counter + 1 ≡ most_tracks = omega (arith, c.loop-test.false, c.loop.auto.counter-end) in
    last_outcome base moves c.args.power (site_of c.args.atlas.now c.args.stage.now) last c.loop.counter all
    c.loop.invariant.reached c.try_there-2.result
    (backward c.atlas_laws.ensures.growth c.args.atlas.now c.loop.atlas c.args.word.now
    c.loop.invariant.grows c.base.ensures.sound.base c.requires.closed
    (λ ts ms. IfOk c.try_there-2.result (IsOutcomeThere ts ms c.args.power last)) c.try_there-2.ensures)
