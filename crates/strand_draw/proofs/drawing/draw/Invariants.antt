use Rattle.std.proofs.Common.{pos}
use Rattle.ideal_tri.specs.Strands.{state_at}
use Rattle.tri_atlas.specs.Arena.{triangulation}
use Rattle.strand_draw.specs.inside.InOrder.{AreDrawn, strands_before}
use Rattle.strand_draw.proofs.drawing.draw.Given as goal

abbrev pub invariant-loop-e : goal.invariant-loop-e
invariant-loop-e l =
    AreDrawn (triangulation l.atlas l.w.tri) l.w.numbers (strands_before l.w.numbers (state_at (pos l.e) 0)) l.marks
    l.walks.items
