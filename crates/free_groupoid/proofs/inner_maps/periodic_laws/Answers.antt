use Rattle.free_groupoid.proofs.InnerPowers.{power_laws}
use Rattle.free_groupoid.proofs.FoundMaps.{found_laws}
use Rattle.free_groupoid.proofs.inner_maps.periodic_laws.Goals as goal

pub returns-clause-powers : goal.returns-clause-powers
returns-clause-powers c =
    power_laws (record { labels = c.label_laws.ensures; words = c.word_laws.ensures; maps = c.map_laws.ensures })
    c.surface_laws.ensures c.inner_laws.ensures.test c.inner_laws.ensures.maps

pub returns-clause-found : goal.returns-clause-found
returns-clause-found c =
    found_laws (record { labels = c.label_laws.ensures; words = c.word_laws.ensures; maps = c.map_laws.ensures })
    c.surface_laws.ensures c.atlas_laws.ensures c.groupoid_laws.ensures c.inner_laws.ensures.test
