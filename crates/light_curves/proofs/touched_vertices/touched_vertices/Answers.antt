use Rattle.std.proofs.Common.{◌≡◌, ◌≤◌, ◌*◌, ◌+◌, ℕ, ◌∙◌, subst, sym, ap, rules, slice_index, Vec, Global}
use Rattle.ideal_tri.specs.Triangulations.{edge_count}
use Rattle.ideal_tri.specs.declared.vertex.VertexId.{VertexId}
use Rattle.light_curves.specs.inside.Touched.{AreTouchedBelow}
use Rattle.light_curves.proofs.TouchedVertices.{more_touched, same_touched, true_or_false}
use Rattle.light_curves.proofs.touched_vertices.touched_vertices.Goals as goal
use Rattle.light_curves.proofs.touched_vertices.touched_vertices.Goals.{then-is_light+in_ok-push_ends, else-is_light}

pub loop-e-preserved : goal.loop-e-preserved
loop-e-preserved c =
    let n : ℕ = slice_index c.args.w.now c.loop-e.e in
    elim c.if-is_light.branch [
      | then-is_light+in_ok-push_ends w ↦
          more_touched c.args.tri.now c.args.w.now c.loop-e.e c.loop-e.touched.items c.if-is_light.touched.items
          (subst (λ (g : ℕ). n * n ≤ g) c.greatest-greatest.ensures.value (c.is_light.ensures.0 w.if-is_light.true))
          (ap (λ (v : Vec VertexId Global). v.items) w.touched-is ∙ w.in_ok-push_ends.ensures)
          c.loop-e.invariant
      | else-is_light w ↦
          subst (AreTouchedBelow c.args.tri.now c.args.w.now (c.loop-e.e + 1))
          (sym (ap (λ (v : Vec VertexId Global). v.items) w.touched-is))
          (same_touched c.args.tri.now c.args.w.now c.loop-e.e c.loop-e.touched.items
          (λ light. absurd (true_or_false c.is_light.result w.if-is_light.false
          (c.is_light.ensures.1 (subst (λ (g : ℕ). n * n ≤ g) (sym c.greatest-greatest.ensures.value) light))))
          c.loop-e.invariant)
    ]

pub returns : goal.returns
returns c =
    let all : c.loop-e.e ≡ edge_count c.args.tri.now = search rules in
    subst (λ (n : ℕ). AreTouchedBelow c.args.tri.now c.args.w.now n c.loop-e.touched.items) all c.loop-e.invariant
