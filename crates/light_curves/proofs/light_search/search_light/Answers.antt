use Rattle.std.proofs.Common.{◌≡◌, ◌<◌, ◌≤◌, ◌-◌, ◌∙◌, List, length, sym, ap, arith, rules, Vec, Global}
use Rattle.std.proofs.lemmas.List.{get_or_default}
use Rattle.std.proofs.lemmas.Result.{IfErr-at_err, IfOk-at_ok}
use Rattle.tri_atlas.specs.Arena.{Arena}
use Rattle.tri_atlas.specs.Moves.{Move}
use Rattle.tri_atlas.specs.Paths.{moves_of}
use Rattle.edge_coords.specs.declared.lines.CurveLine.{CurveLine}
use Rattle.light_curves.specs.inside.StageCurves.{IsLineHere, PassesHere}
use Rattle.light_curves.proofs.LightLines.{all_lines, first_light, own_line, same_line}
use Rattle.light_curves.proofs.light_search.search_light.Goals as goal
use Rattle.light_curves.proofs.light_search.search_light.Goals.{then-n-stages+in_ok-coords+in-Err+in_ok-push-in-Err}
use Rattle.light_curves.proofs.light_search.search_light.Goals.{else-n-stages+in_ok-push}

pub returns-in-Ok-clause-answer : goal.returns-in-Ok-clause-answer
returns-in-Ok-clause-answer c w are =
    let arena : Arena = c.args.atlas.now in
    let moves : List Move = moves_of arena c.args.word.now in
    first_light arena moves w c.args.stages.now are c.loop-n.n c.loop-n.log.items c.loop-n.invariant c.index-stages-n.result
    c.in-Ok.coords c.loop-n-test.true c.if-n-stages.true
    (λ other. get_or_default c.args.stages.now c.loop-n.n other _ c.if-n-stages.true ∙ sym c.index-stages-n.is)
    (IfOk-at_ok (PassesHere arena moves c.index-stages-n.result) c.in-Ok.is c.in_ok-coords.ensures.passes)

pub loop-n-preserved : goal.loop-n-preserved
loop-n-preserved c =
    let arena : Arena = c.args.atlas.now in
    let moves : List Move = moves_of arena c.args.word.now in
    elim c.if-n-stages.branch [
      | then-n-stages+in_ok-coords+in-Err+in_ok-push-in-Err v ↦
          own_line arena moves c.args.stages.now c.loop-n.n c.loop-n.log.items c.if-n-stages.log.items v.in-Err.line
          c.loop-n.invariant (ap (λ (l : Vec CurveLine Global). l.items) v.log-is ∙ v.in_ok-push-in-Err.ensures.items)
          v.index-stages-n.result v.if-n-stages.true
          (λ other. get_or_default c.args.stages.now c.loop-n.n other _ v.if-n-stages.true ∙ sym v.index-stages-n.is)
          (IfErr-at_err (IsLineHere arena moves v.index-stages-n.result) v.in-Err.is v.in_ok-coords.ensures.line)
      | else-n-stages+in_ok-push v ↦
          let some : 0 < length c.args.stages.now = c.requires.stages.1.some in
          let past : length c.args.stages.now ≤ c.loop-n.n = omega (arith, v.if-n-stages.false) in
          let inside : c.loop-n.n - 1 < length c.loop-n.log.items =
          omega (arith, some, past, c.loop-n.invariant.one_each) in
          same_line arena moves c.args.stages.now c.loop-n.n c.loop-n.log.items c.if-n-stages.log.items v.index.result.now
          c.loop-n.invariant (ap (λ (l : Vec CurveLine Global). l.items) v.log-is ∙ v.in_ok-push.ensures.items) some past
          (λ d. get_or_default c.loop-n.log.items (c.loop-n.n - 1) d _ inside ∙ sym v.index.ensures)
    ]

pub returns-clause-answer : goal.returns-clause-answer
returns-clause-answer c w are =
    let arena : Arena = c.args.atlas.now in
    let last : c.loop-n.n ≡ 56 = search rules in
    all_lines arena (moves_of arena c.args.word.now) w c.args.stages.now are c.loop-n.n c.loop-n.log.items
    c.loop-n.invariant last
