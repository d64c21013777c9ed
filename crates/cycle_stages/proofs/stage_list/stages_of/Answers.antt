use Rattle.std.proofs.Common.{◌≡◌, ◌<◌, ◌+◌, Bool, false, ℕ, ℤ, List, subst, arith, rules}
use Rattle.tri_atlas.specs.Arena.{Arena, triangulation}
use Rattle.tri_atlas.specs.Moves.{Move}
use Rattle.tri_atlas.specs.Paths.{moves_of}
use Rattle.cycle_stages.specs.KeptStages.{there, HasMade, IsSame}
use Rattle.cycle_stages.specs.Stages.{HasNoNext}
use Rattle.cycle_stages.proofs.StageLists.{all_stages, ended_stages, stage_pushed, stage_the_same, stages_grown}
use Rattle.cycle_stages.proofs.StageSteps.{kept_the_same}
use Rattle.cycle_stages.proofs.stage_list.stages_of.Goals as goal

pub loop-preserved : goal.loop-preserved
loop-preserved c =
    let old : Arena = c.loop.atlas in
    let new : Arena = c.deepen.new.atlas in
    let triples : List (List ℤ) = triangulation c.args.atlas.now 0 in
    let moves : List Move = moves_of c.args.atlas.now c.args.word.now in
    let w : List ℕ = c.args.w.now.numbers in
    record {
      grows = c.atlas_laws.ensures.growth.further _ _ _ c.loop.invariant.grows c.in_ok-deepen.ensures.grows;
      kept = c.in_ok-deepen.ensures.kept;
      stage = c.in_ok-deepen.ensures.deeper triples moves w c.loop.counter c.loop.invariant.stage;
      listed = stages_grown old new c.stage_laws.ensures c.in_ok-deepen.ensures.grows triples moves w
          (c.loop.counter + 1) c.push.new.self.items
          (stage_pushed old triples moves w c.loop.counter c.loop.stages.items c.loop.invariant.listed
          c.in_ok-copied.field-0 c.push.new.self.items
          (kept_the_same old c.loop.stage c.in_ok-copied.field-0 c.loop.invariant.kept c.in_ok-copied.ensures)
          (stage_the_same old triples moves w c.loop.counter c.loop.stage c.in_ok-copied.field-0
          c.loop.invariant.stage c.in_ok-copied.ensures)
          c.in_ok-push.ensures.items);
    }

pub returns-clause-stages : goal.returns-clause-stages
returns-clause-stages c =
    let triples : List (List ℤ) = triangulation c.args.atlas.now 0 in
    let moves : List Move = moves_of c.args.atlas.now c.args.word.now in
    let w : List ℕ = c.args.w.now.numbers in
    let last : c.loop.counter ≡ 55 = search rules in
    all_stages c.loop.atlas triples moves w (c.loop.counter + 1) c.push-2.new.self.items
    (stage_pushed c.loop.atlas triples moves w c.loop.counter c.loop.stages.items c.loop.invariant.listed c.loop.stage
    c.push-2.new.self.items c.loop.invariant.kept c.loop.invariant.stage c.in_ok-push-2.ensures.items)
    (omega (arith, last))

pub returns-then-not-branch-clause-stages : goal.returns-then-not-branch-clause-stages
returns-then-not-branch-clause-stages c =
    let old : Arena = c.loop.atlas in
    let new : Arena = c.deepen.new.atlas in
    let low : c.loop.counter < 55 = search rules in
    let none_made : c.in_ok-deepen.field-0 ≡ false = search rules in
    let ended : IsSame c.loop.stage c.deepen.new.stage × HasNoNext (there old c.loop.stage) c.loop.stage.coords.numbers =
    subst (λ (made : Bool). HasMade made old c.loop.stage c.deepen.new.stage) none_made c.in_ok-deepen.ensures.made in
    ended_stages old new c.stage_laws.ensures c.in_ok-deepen.ensures.grows (triangulation c.args.atlas.now 0)
    (moves_of c.args.atlas.now c.args.word.now) c.args.w.now.numbers c.loop.counter c.loop.stages.items
    c.push.new.self.items c.loop.stage c.in_ok-copied.field-0 c.loop.invariant.listed c.loop.invariant.kept
    c.loop.invariant.stage c.in_ok-copied.ensures c.in_ok-push.ensures.items ended.1 (omega (arith, low))
