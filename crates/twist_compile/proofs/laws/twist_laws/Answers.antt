use Rattle.twist_compile.proofs.Twists.{twist_laws}
use Rattle.twist_compile.proofs.laws.twist_laws.Goals as goal

pub returns : goal.returns
returns c =
    twist_laws
    (record {
      labels = c.label_laws.ensures;
      words = c.word_laws.ensures;
      surfaces = c.surface_laws.ensures;
      triples = c.triple_laws.ensures;
      flips = c.flip_laws.ensures;
      hits = c.hit_laws.ensures;
      bijections = c.bijection_laws.ensures;
      relabellings = c.relabelling_laws.ensures;
      drawings = c.drawing_laws.ensures;
      maps = c.map_laws.ensures;
      vectors = c.vector_laws.ensures;
      corners = c.flipped_corner_laws.ensures;
    })
