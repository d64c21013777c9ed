use Rattle.std.proofs.Common.{◌∙◌, ap, sym, arith, ℕ, ◌+◌}
use Rattle.ideal_tri.proofs.Components.{first_triangles-more, first_triangles_few}
use Rattle.ideal_tri.proofs.component.first_triangles.Goals as goal
use Rattle.ideal_tri.proofs.component.first_triangles.Goals.{then-least_triangle-t, else-least_triangle-t}

pub overflow_add-found : goal.overflow_add-found
overflow_add-found c = omega (arith, first_triangles_few c.args.tri.now c.loop-t.t)

pub loop-t-preserved : goal.loop-t-preserved
loop-t-preserved c =
    let more = first_triangles-more c.args.tri.now c.loop-t.t c.least_triangle.result c.least_triangle.ensures.least in
    elim c.if-least_triangle-t.branch [
      | then-least_triangle-t w ↦
          w.found-is ∙ ap (λ (n : ℕ). n + 1) c.loop-t.invariant ∙ sym (more.0 w.if-least_triangle-t.true)
      | else-least_triangle-t w ↦ w.found-is ∙ c.loop-t.invariant ∙ sym (more.1 w.if-least_triangle-t.false)
    ]
