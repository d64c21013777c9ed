use Rattle.std.proofs.Common.{subst}
use Rattle.std.proofs.lemmas.Result.{IfErr-at_err}
use Rattle.tri_atlas.specs.Paths.{MovePath, joined}
use Rattle.verdict_plan.specs.inside.Ways.{IsPast}
use Rattle.verdict_plan.proofs.BackWays.{line_first}
use Rattle.verdict_plan.proofs.progress.flips_back.Goals as goal

pub returns : goal.returns
returns c word =
    line_first c.args.atlas.now word c.args.stage.now c.end.result c.end.ensures c.atlas_laws.ensures.ways
    c.base.ensures.sound c.requires.kept c.in_ok-way.way.path c.in_ok-way.ensures.is c.args.track.now c.requires.track
    c.in-Err.letters
    (subst (λ (p : MovePath). IsPast c.args.atlas.now (joined c.in_ok-way.way.path p) c.in-Err.letters)
    c.in_ok-back.ensures.accepted (IfErr-at_err _ c.in-Err.is c.in_ok-way-2.ensures.past))
