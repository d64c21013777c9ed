use Rattle.std.proofs.Common.{◌≡◌, ℕ, List, IfOk, subst}
use Rattle.std.proofs.lemmas.Result.{IfOk-at_ok, IfErr-at_err}
use Rattle.tri_atlas.specs.Paths.{MovePath, joined}
use Rattle.verdict_plan.specs.inside.Trials.{IsMapAlong}
use Rattle.verdict_plan.specs.inside.Ways.{IsWayAlong, IsPast}
use Rattle.verdict_plan.proofs.CandidateWays.{candidate_map, outcome, line_whole}
use Rattle.verdict_plan.proofs.trials.try_way.Goals as goal

pub try_map-requires : goal.try_map-requires
try_map-requires c = (
  joined c.args.way.now.path c.args.stage.now.path,
  candidate_map c.args.atlas.now c.args.word.now c.args.stage.now c.args.power c.args.way.now
      c.atlas_laws.ensures.ways c.requires.kept c.requires.way c.args.track.now c.requires.track
      c.periodic_laws.ensures.found c.base.ensures.sound c.in-Ok.way
      (subst (λ (p : MovePath). IsWayAlong c.args.atlas.now (joined p c.args.stage.now.path) c.in-Ok.way)
      c.in_ok-way.ensures.is (IfOk-at_ok _ c.in-Ok.is c.in_ok-way-2.ensures.on)),
)

pub returns-in-Ok : goal.returns-in-Ok
returns-in-Ok c =
    let map : IsMapAlong c.args.atlas.now c.args.track.now (joined c.args.way.now.path c.args.stage.now.path)
    c.in-Ok.way.map =
    candidate_map c.args.atlas.now c.args.word.now c.args.stage.now c.args.power c.args.way.now
    c.atlas_laws.ensures.ways c.requires.kept c.requires.way c.args.track.now c.requires.track
    c.periodic_laws.ensures.found c.base.ensures.sound c.in-Ok.way
    (subst (λ (p : MovePath). IsWayAlong c.args.atlas.now (joined p c.args.stage.now.path) c.in-Ok.way)
    c.in_ok-way.ensures.is (IfOk-at_ok _ c.in-Ok.is c.in_ok-way-2.ensures.on)) in
    outcome c.args.atlas.now c.args.word.now c.args.stage.now c.args.power c.args.way.now c.atlas_laws.ensures.ways
    c.requires.kept c.requires.way c.args.track.now c.requires.track c.in-Ok.way.map map c.try_map.result
    c.try_map.ensures.passes c.try_map.ensures.power
    (subst (λ (es : List ℕ). IfOk c.try_map.result (λ a. IfOk a (λ p. p.flips.items ≡ es)))
    c.deref.ensures.value c.try_map.ensures.flips) c.try_map.ensures.line

pub returns-in-Err : goal.returns-in-Err
returns-in-Err c =
    line_whole c.args.atlas.now c.args.word.now c.args.stage.now c.args.power c.args.way.now
    c.atlas_laws.ensures.ways c.requires.kept c.requires.way c.args.track.now c.requires.track c.in-Err.n
    (subst (λ (p : MovePath). IsPast c.args.atlas.now (joined p c.args.stage.now.path) c.in-Err.n)
    c.in_ok-way.ensures.is (IfErr-at_err _ c.in-Err.is c.in_ok-way-2.ensures.past))
