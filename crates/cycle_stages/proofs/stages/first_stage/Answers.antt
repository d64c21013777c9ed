use Rattle.std.proofs.Common.{ap}
use Rattle.tri_atlas.specs.Arena.{triangulation}
use Rattle.tri_atlas.specs.Paths.{moves_of}
use Rattle.cycle_stages.proofs.GreatestFlips.{stage_first}
use Rattle.cycle_stages.proofs.stages.first_stage.Goals as goal

pub returns-clause-stage : goal.returns-clause-stage
returns-clause-stage c =
    stage_first (triangulation c.args.atlas.now 0) _ (moves_of c.args.atlas.now c.args.word.now) c.args.w.now.numbers
    c.last_image.result.numbers c.new-2.result.items c.last_image.ensures.last c.new-2.ensures.items
    (ap (triangulation c.args.atlas.now) c.last_image.ensures.base)
