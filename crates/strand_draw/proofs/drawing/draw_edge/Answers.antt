use Rattle.std.proofs.Common.{ℕ, List, ◌≡◌, arith, ◌∙◌, ap, subst, get_or}
use Rattle.ideal_tri.specs.Labels.{edge_of}
use Rattle.ideal_tri.specs.Strands.{State, state_at}
use Rattle.tri_atlas.specs.Arena.{triangulation}
use Rattle.strand_draw.specs.inside.InOrder.{AreDrawn, strands_before}
use Rattle.strand_draw.proofs.InOrder.{before-next}
use Rattle.strand_draw.proofs.drawing.draw_edge.Goals as goal

pub returns : goal.returns
returns c =
    let w : List ℕ = c.args.w.now.numbers in
    let full : c.loop-place.place ≡ get_or w (edge_of c.args.x) 0 =
    omega (arith, c.loop-place-test.false, c.loop-place.auto.place-end, c.weight-place-end.ensures) in
    subst
    (λ (z : List State). AreDrawn (triangulation c.args.atlas.now c.args.w.now.tri) w z c.loop-place.marks
    c.loop-place.walks.items)
    (ap (λ (n : ℕ). strands_before w (state_at c.args.x n)) full
    ∙ before-next w (edge_of c.args.x) (omega (
      arith,
      c.requires.label,
      c.requires.coordinates.multicurve.one_per_edge,
    )))
    c.loop-place.invariant
