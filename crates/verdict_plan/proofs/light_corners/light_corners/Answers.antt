use Rattle.std.proofs.Common.{sym, ◌∙◌, rules}
use Rattle.std.proofs.lemmas.Bool.{true≢false}
use Rattle.tri_atlas.specs.Arena.{triangulation}
use Rattle.verdict_plan.proofs.LightCorners.{dropped, kept}
use Rattle.verdict_plan.proofs.light_corners.light_corners.Goals as goal
use Rattle.verdict_plan.proofs.light_corners.light_corners.Goals.{then-has_light_count+in_ok-push, else-has_light_count}

pub loop-k-preserved : goal.loop-k-preserved
loop-k-preserved c = elim c.if-has_light_count.branch [
  | then-has_light_count+in_ok-push w ↦
      kept c.label_laws.ensures (triangulation c.args.atlas.now c.args.w.now.tri) c.args.w.now.numbers c.loop-k.k
      c.label_of_rank-x.result c.loop-k.found.items c.loop-k.invariant c.label_of_rank-x.ensures (search rules)
      (c.has_light_count.ensures.0 w.if-has_light_count.true) c.if-has_light_count.found.items (search rules)
  | else-has_light_count w ↦
      dropped c.label_laws.ensures (triangulation c.args.atlas.now c.args.w.now.tri) c.args.w.now.numbers c.loop-k.k
      c.label_of_rank-x.result c.loop-k.found.items c.loop-k.invariant c.label_of_rank-x.ensures
      (λ light. absurd (true≢false (sym (c.has_light_count.ensures.1 light) ∙ w.if-has_light_count.false)))
      c.if-has_light_count.found.items (search rules)
]
