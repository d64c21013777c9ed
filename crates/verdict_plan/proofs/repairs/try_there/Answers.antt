use Rattle.std.proofs.lemmas.Result.{IfErr-at_err}
use Rattle.tri_atlas.specs.Arena.{triangulation}
use Rattle.tri_atlas.specs.Paths.{moves_of}
use Rattle.cert_text.specs.PseudoAnosov.{conjugated}
use Rattle.verdict_plan.specs.inside.FurtherSites.{HasNoLightTrack}
use Rattle.verdict_plan.proofs.repairs.try_there.Goals as goal

pub returns-in-Err : goal.returns-in-Err
returns-in-Err c =
    let none : HasNoLightTrack (triangulation c.args.atlas.now c.args.stage.now.coords.tri)
    c.args.stage.now.coords.numbers c.in-Err.line = IfErr-at_err _ c.in-Err.is c.in_ok-track.ensures.refused in (
      none.left_out,
      none.corners,
      none.fails
          (conjugated (triangulation c.args.atlas.now 0) (moves_of c.args.atlas.now c.args.word.now)
          c.args.stage.now.edges.items c.args.power),
    )
