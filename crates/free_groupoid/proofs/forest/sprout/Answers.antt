use Rattle.std.proofs.Common.{◌∙◌, ◌<◌, ◌^◌, arith}
use Rattle.std.proofs.lemmas.Int.{to_z_pos}
use mir.Syntax.{w32}
use Rattle.free_groupoid.proofs.Sprouting.{trying_more, tried_all, node_there}
use Rattle.free_groupoid.proofs.forest.sprout.Goals as goal

pub loop-e-preserved : goal.loop-e-preserved
loop-e-preserved c =
    let small : c.loop-e.e < 2 ^ 31 = omega (arith, c.edges-e-end.ensures.size.few) in
    trying_more _ _ _ _ _ _ _ _ c.new-x.result _ (omega (arith, c.edges-e-end.ensures.count)) c.loop-e.invariant
    c.node.view_is
    (c.new-x.ensures ∙ to_z_pos w32 c.loop-e.e small) c.inverse.ensures (c.in_ok-push_beyond.ensures)
    (c.in_ok-push_beyond-2.ensures)

pub returns : goal.returns
returns c = λ done queue n is_old here.
    tried_all _ _ _ _ _ _ _ n (omega (arith, c.edges-e-end.ensures.count)) c.loop-e.invariant
    (c.node.view_is ∙ c.in_ok-node.ensures ∙ node_there _ _ _ _ _ _ is_old here c.index.ensures) is_old
