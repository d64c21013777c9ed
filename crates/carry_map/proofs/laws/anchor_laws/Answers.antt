use Rattle.carry_map.proofs.AnchorTheory.{anchor_theory}
use Rattle.carry_map.proofs.laws.anchor_laws.Goals as goal

pub returns : goal.returns
returns c =
    anchor_theory c.label_laws.ensures c.surface_laws.ensures c.word_laws.ensures c.map_laws.ensures
    c.track_laws.ensures
