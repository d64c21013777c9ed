use Rattle.free_groupoid.proofs.Known.{Known, glued, with_forest}
use Rattle.free_groupoid.proofs.InnerTest.{inner_test_laws}
use Rattle.free_groupoid.proofs.InnerMaps.{inner_map_laws}
use Rattle.free_groupoid.proofs.inner_maps.inner_laws.Goals as goal

pub returns-clause-test : goal.returns-clause-test
returns-clause-test c =
    let known : Known =
    record { labels = c.label_laws.ensures; words = c.word_laws.ensures; maps = c.map_laws.ensures } in
    inner_test_laws (λ triples tri. with_forest triples (glued known c.surface_laws.ensures triples tri)
    (c.forest_laws.ensures triples tri))

pub returns-clause-maps : goal.returns-clause-maps
returns-clause-maps c =
    inner_map_laws (record { labels = c.label_laws.ensures; words = c.word_laws.ensures; maps = c.map_laws.ensures })
    c.surface_laws.ensures
