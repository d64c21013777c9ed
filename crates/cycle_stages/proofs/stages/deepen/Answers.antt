use Rattle.std.proofs.Common.{◌∙◌, ap}
use Rattle.tri_atlas.specs.Arena.{triangulation}
use Rattle.cycle_stages.proofs.StageSteps.{deeper_after, deeper_without, next_here, no_next_here}
use Rattle.cycle_stages.proofs.stages.deepen.Goals as goal

pub returns-in-None-clause-deeper : goal.returns-in-None-clause-deeper
returns-in-None-clause-deeper c =
    deeper_without c.args.atlas.now c.args.stage.now
    (no_next_here _ _ _ _ (c.tri-2.ensures.value ∙ ap (triangulation c.args.atlas.now) c.tri.ensures)
    c.values.ensures.value c.in-None.ensures.none)

pub returns-in_ok-flip_edge-in-Some-clause-deeper : goal.returns-in_ok-flip_edge-in-Some-clause-deeper
returns-in_ok-flip_edge-in-Some-clause-deeper c =
    deeper_after c.args.atlas.now c.flip_edge.new.atlas c.args.stage.now c.flip_edge.new.stage c.in-Some.e
    c.in_ok-flip_edge-in-Some.ensures.flipped
    (next_here _ _ _ _ _ (c.tri-2.ensures.value ∙ ap (triangulation c.args.atlas.now) c.tri.ensures)
    c.values.ensures.value c.in-Some.ensures.some)
