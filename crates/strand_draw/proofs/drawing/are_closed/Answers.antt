use Rattle.std.proofs.Common.{ℤ, List, ◌∙◌, ap, subst}
use Rattle.ideal_tri.specs.Triangulations.{IsTriangulation}
use Rattle.ideal_tri.specs.Strands.{words_of}
use Rattle.ideal_tri.specs.Drawings.{draw}
use Rattle.ideal_tri.specs.DrawingLaws.{DrawingLaws}
use Rattle.tri_atlas.specs.Arena.{triangulation}
use Rattle.strand_draw.proofs.ClosedWalks.{all_closed}
use Rattle.strand_draw.proofs.drawing.are_closed.Goals as goal

pub returns : goal.returns
returns c =
    let triples : List (List ℤ) = triangulation c.args.atlas.now c.args.w.now.tri in
    let sound : IsTriangulation triples =
    subst IsTriangulation (c.tri-2.ensures.value ∙ ap (triangulation c.args.atlas.now) c.tri.ensures)
    c.tri-2.ensures.sound in
    let laws : DrawingLaws triples = c.drawing_laws.ensures triples sound in
    all_closed triples sound (c.surface_laws.ensures.triangles triples sound)
    (words_of (draw triples c.args.w.now.numbers))
    (laws.walks c.args.w.now.numbers (draw triples c.args.w.now.numbers) c.requires.multicurve
    (laws.exists c.args.w.now.numbers c.requires.multicurve))
