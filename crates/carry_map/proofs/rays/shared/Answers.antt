use Rattle.std.proofs.Common.{ap, ◌∙◌, arith}
use Rattle.free_groupoid.specs.Walks.{DualWalk}
use Rattle.carry_map.proofs.RayReads.{most_on, most_end, greater}
use Rattle.carry_map.proofs.rays.shared.Goals as goal

pub loop-ray-init : goal.loop-ray-init
loop-ray-init c = omega arith

pub loop-ray-preserved : goal.loop-ray-preserved
loop-ray-preserved c =
    most_on c.args.rays.now c.loop-ray.ray-index c.ray-item.result c.loop-ray-test.true c.ray-item.is c.args.word.now
    c.deref.result.now c.loop-ray.most c.common_length.result c.max-most.result
    (c.deref.ensures.value ∙ ap (λ (w : DualWalk). w.letters) c.ray.view_is) c.common_length.ensures.within
    c.common_length.ensures.letters (c.max-most.ensures ∙ greater c.loop-ray.most c.common_length.result)
    c.loop-ray.invariant

pub returns : goal.returns
returns c = most_end c.args.word.now c.args.rays.now c.loop-ray.ray-index c.loop-ray.most c.loop-ray-test.false
    c.loop-ray.invariant
