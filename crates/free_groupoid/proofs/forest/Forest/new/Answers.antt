use Rattle.std.proofs.Common.{◌+◌, ◌<◌, length, sym, ap, subst, arith, rules}
use Rattle.free_groupoid.proofs.Sprouting.{IsPlanted, planted_none, planted_more, planted_past}
use Rattle.free_groupoid.proofs.forest.Forest.new.Goals as goal
use Rattle.free_groupoid.proofs.forest.Forest.new.Goals.{then-not-has_node+in_ok-grow, else-not-has_node}

pub loop-t-init : goal.loop-t-init
loop-t-init c = subst (λ ns. IsPlanted c.args.tri.now ns 0) (sym c.new-nodes.ensures.items) (planted_none
    c.args.tri.now)

pub loop-t-preserved : goal.loop-t-preserved
loop-t-preserved c =
    let inside : c.loop-t.t < length c.args.tri.now = omega (arith, c.triangles-t-end.ensures.count) in
    elim c.if-not-has_node.branch [
      | then-not-has_node+in_ok-grow w ↦
          subst (λ ns. IsPlanted c.args.tri.now ns (c.loop-t.t + 1)) (ap (λ v. v.items) (sym w.nodes-is))
          (planted_more _ _ _ _ c.loop-t.invariant inside (rw (← c.deref.ensures.value) (search rules))
          (w.in_ok-grow.ensures))
      | else-not-has_node w ↦
          subst (λ ns. IsPlanted c.args.tri.now ns (c.loop-t.t + 1)) (ap (λ v. v.items) (sym w.nodes-is))
          (planted_past _ _ _ c.loop-t.invariant inside (rw (← c.deref.ensures.value) (search rules)))
    ]
