use Rattle.std.proofs.Common.{◌-◌, length}
use Rattle.ideal_tri.specs.Strands.{IsStrand}
use Rattle.ideal_tri.specs.Drawings.{curve_from}
use Rattle.tri_atlas.specs.Arena.{triangulation}
use Rattle.strand_draw.specs.inside.Marks.{AreNumbered}
use Rattle.strand_draw.proofs.Tracing.{IsTraced}
use Rattle.strand_draw.proofs.drawing.trace.Given as goal

abbrev pub invariant-loop-q : goal.invariant-loop-q
invariant-loop-q l = record {
  strand : IsStrand (triangulation l.atlas l.w.tri) l.w.numbers l.at;
  numbered : AreNumbered l.w.numbers l.marks;
  traced : IsTraced (triangulation l.atlas l.w.tri) l.w.numbers l.q l.at l.letters.items l.fn.marks l.marks;
}

abbrev pub decreases-loop-q : goal.decreases-loop-q
decreases-loop-q l =
    length (curve_from (triangulation l.atlas l.w.tri) l.w.numbers l.q) - length l.letters.items
