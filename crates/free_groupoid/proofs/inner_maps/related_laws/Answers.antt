use Rattle.free_groupoid.proofs.Known.{Known, glued, with_forest}
use Rattle.free_groupoid.proofs.Relations.{relation_laws}
use Rattle.free_groupoid.proofs.RelatedPaths.{related_laws}
use Rattle.free_groupoid.proofs.inner_maps.related_laws.Goals as goal

pub returns-clause-test : goal.returns-clause-test
returns-clause-test c =
    let known : Known =
    record { labels = c.label_laws.ensures; words = c.word_laws.ensures; maps = c.map_laws.ensures } in
    related_laws c.map_laws.ensures
    (λ triples tri. with_forest triples (glued known c.surface_laws.ensures triples tri)
    (c.forest_laws.ensures triples tri))

pub returns-clause-relations : goal.returns-clause-relations
returns-clause-relations c =
    relation_laws (record { labels = c.label_laws.ensures; words = c.word_laws.ensures; maps = c.map_laws.ensures })
    c.surface_laws.ensures
