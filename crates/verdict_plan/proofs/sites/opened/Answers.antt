use Rattle.std.proofs.lemmas.Result.{IfOk-at_ok, IfErr-at_err}
use Rattle.verdict_plan.specs.declared.series.Series.TheVariants.{First}
use Rattle.verdict_plan.specs.inside.Sites.{path_at}
use Rattle.verdict_plan.proofs.SiteTurns.{progress_on}
use Rattle.verdict_plan.proofs.sites.opened.Goals as goal

pub returns-in_ok-progress-in-Ok : goal.returns-in_ok-progress-in-Ok
returns-in_ok-progress-in-Ok c word =
    let told = IfOk-at_ok _ c.in-Ok.is c.in_ok-track.ensures.accepted in
    let here = IfOk-at_ok _ c.in-Ok.is c.in_ok-track.ensures.here in (
      record { here = here; tri = told.0; corners = told.1 },
      progress_on c.args.atlas.now word c.args.stage.now 0 c.in_ok-progress-in-Ok.progress
          (c.in_ok-progress-in-Ok.ensures word),
    )

pub returns-in-Err : goal.returns-in-Err
returns-in-Err c word power =
    IfErr-at_err _ c.in-Err.is c.in_ok-track.ensures.refused First
    (path_at c.args.atlas.now word c.args.stage.now power)
