use Rattle.ideal_tri.specs.Strands.{state_at}
use Rattle.tri_atlas.specs.Arena.{triangulation}
use Rattle.strand_draw.specs.inside.InOrder.{AreDrawn, strands_before}
use Rattle.strand_draw.proofs.drawing.draw_edge.Given as goal

abbrev pub invariant-loop-place : goal.invariant-loop-place
invariant-loop-place l =
    AreDrawn (triangulation l.atlas l.w.tri) l.w.numbers (strands_before l.w.numbers (state_at l.x l.place)) l.marks
    l.walks.items
