use Rattle.std.proofs.Common.{ap, ◌∙◌, arith}
use Rattle.free_groupoid.specs.Walks.{DualWalk}
use Rattle.carry_map.proofs.RayReads.{between_on, between_end, greater}
use Rattle.carry_map.proofs.rays.most_shared.Goals as goal

pub loop-ray-init : goal.loop-ray-init
loop-ray-init c = omega arith

pub loop-ray-preserved : goal.loop-ray-preserved
loop-ray-preserved c =
    between_on c.args.backs.now c.args.fronts.now c.loop-ray.ray-index c.ray-item.result
    c.deref.result.now c.loop-ray.most c.shared.result c.max-most.result c.loop-ray-test.true c.ray-item.is
    (c.deref.ensures.value ∙ ap (λ (w : DualWalk). w.letters) c.ray.view_is) c.shared.ensures
    (c.max-most.ensures ∙ greater c.loop-ray.most c.shared.result) c.loop-ray.invariant

pub returns : goal.returns
returns c =
    between_end c.args.backs.now c.args.fronts.now c.loop-ray.ray-index c.loop-ray.most c.loop-ray-test.false
    c.loop-ray.invariant
