use Rattle.free_groupoid.proofs.Known.{glued}
use Rattle.free_groupoid.proofs.ForestLaws.{forest_laws}
use Rattle.free_groupoid.proofs.inner_maps.forest_laws.Goals as goal

pub returns : goal.returns
returns c = λ triples tri.
    forest_laws triples
    (glued (record { labels = c.label_laws.ensures; words = c.word_laws.ensures; maps = c.map_laws.ensures })
    c.surface_laws.ensures triples tri)
    (c.component_laws.ensures.components triples tri)
