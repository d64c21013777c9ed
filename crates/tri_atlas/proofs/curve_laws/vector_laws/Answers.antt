use Rattle.tri_atlas.proofs.LowerLaws.{LowerLaws}
use Rattle.tri_atlas.proofs.Vectors.Laws.{vector_laws}
use Rattle.tri_atlas.proofs.curve_laws.vector_laws.Goals as goal

pub returns : goal.returns
returns c =
    let laws : LowerLaws = record {
      labels = c.label_laws.ensures;
      words = c.word_laws.ensures;
      surfaces = c.surface_laws.ensures;
      flips = c.flip_laws.ensures;
      bijections = c.bijection_laws.ensures;
      relabellings = c.relabelling_laws.ensures;
    } in
    vector_laws (record {
      lower = laws;
      same = c.same_curves_laws.ensures;
      corners = c.corner_laws.ensures;
      drawings = c.drawing_laws.ensures;
      strands = c.strand_laws.ensures;
    })
