use Rattle.std.proofs.Common.{◌∙◌, arith}
use Rattle.ideal_tri.proofs.Vertices.{IsTold, told, firsts_fit, firsts_more_yes, firsts_more_no}
use Rattle.ideal_tri.proofs.vertex.first_corners.Goals as goal
use Rattle.ideal_tri.proofs.vertex.first_corners.Goals.{then-eq, else-eq}

pub label_of_rank-x-requires : goal.label_of_rank-x-requires
label_of_rank-x-requires c = omega (arith, c.requires.size.few)

pub overflow_add-found : goal.overflow_add-found
overflow_add-found c =
    omega (arith, firsts_fit c.args.tri.now c.loop-k.k c.loop-k.found c.loop-k.invariant, c.requires.size.few)

pub loop-k-preserved : goal.loop-k-preserved
loop-k-preserved c =
    let t : IsTold c.args.tri.now c.loop-k.k c.eq.result =
    told c.args.tri.now c.loop-k.k c.label_of_rank-x.result c.least_corner.result c.eq.result c.label_of_rank-x.ensures
    c.least_corner.ensures.least
    c.eq.ensures in
    elim c.if-eq.branch [
      | then-eq w ↦
          w.found-is
          ∙ firsts_more_yes c.args.tri.now c.loop-k.k c.loop-k.found c.eq.result t w.if-eq.true c.loop-k.invariant
      | else-eq w ↦
          w.found-is
          ∙ firsts_more_no c.args.tri.now c.loop-k.k c.loop-k.found c.eq.result t w.if-eq.false c.loop-k.invariant
    ]
