use Rattle.tri_atlas.specs.Arena.{triangulation}
use Rattle.verdict_plan.proofs.LightCorners.{AreLightBelow}
use Rattle.verdict_plan.proofs.light_corners.light_corners.Given as goal

abbrev pub invariant-loop-k : goal.invariant-loop-k
invariant-loop-k l = AreLightBelow (triangulation l.atlas l.w.tri) l.w.numbers l.k l.found.items
