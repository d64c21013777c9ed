use Rattle.std.proofs.Common.{◌+◌, ◌<◌, ◌≡◌, ◌∙◌, length, sym, ap, subst, arith}
use Rattle.free_groupoid.proofs.Sprouting.{IsGrown, grown_more, grown_done}
use Rattle.free_groupoid.proofs.forest.grow.Goals as goal
use Rattle.free_groupoid.proofs.forest.grow.Goals.{then-i-len+in_ok-sprout, else-i-len}

pub loop-k-preserved : goal.loop-k-preserved
loop-k-preserved c =
    let inside : c.loop-k.k < length c.args.tri.now = omega (arith, c.triangles-k-end.ensures.count) in
    let place : c.len-first.result + c.loop-k.k ≡ length c.args.nodes.now.items + c.loop-k.k = omega (
      arith,
      c.len-first.ensures,
    ) in
    elim c.if-i-len.branch [
      | then-i-len+in_ok-sprout w ↦
          subst (λ ns. IsGrown c.args.tri.now c.args.nodes.now.items c.args.t ns (c.loop-k.k + 1)) (ap (λ v. v.items)
          (sym w.nodes-is))
          (grown_more _ _ _ _ _ _ c.loop-k.invariant inside (omega (arith, w.if-i-len.true, c.len.ensures, place))
          (λ done queue n is_nodes here. w.in_ok-sprout.ensures done queue n is_nodes (here ∙ sym place)))
      | else-i-len w ↦
          subst (λ ns. IsGrown c.args.tri.now c.args.nodes.now.items c.args.t ns (c.loop-k.k + 1)) (ap (λ v. v.items)
          (sym w.nodes-is))
          (grown_done _ _ _ _ _ c.loop-k.invariant inside (omega (arith, w.if-i-len.false, c.len.ensures, place)))
    ]
