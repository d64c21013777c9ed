use Rattle.std.proofs.Common.{◌+◌}
use Rattle.std.proofs.lemmas.Result.{IfOk-weaker}
use Rattle.tri_atlas.specs.Arena.{triangulation}
use Rattle.tri_atlas.specs.Paths.{moves_of}
use Rattle.cycle_stages.specs.KeptStages.{IsStageIn}
use Rattle.verdict_plan.proofs.Grown.{here_too}
use Rattle.verdict_plan.proofs.sites.next_depth.Goals as goal

pub returns-clause-next : goal.returns-clause-next
returns-clause-next c =
    IfOk-weaker c.first_power.result _ _
    (λ site first w depth power h. first c.args.word.now w (depth + 1)
    (here_too c.args.atlas.now c.deepen.new.atlas c.atlas_laws.ensures.growth c.deepen.ensures.grows
    c.atlas_laws.ensures.handles c.base.ensures.sound c.args.word.now c.requires.closed
    (λ ts ms. IsStageIn c.deepen.new.atlas ts ms w (depth + 1) c.deepen.new.stage)
    (c.in_ok-deepen.ensures.deeper (triangulation c.args.atlas.now 0) (moves_of c.args.atlas.now c.args.word.now) w
    depth h.stage)))
    c.first_power.ensures
