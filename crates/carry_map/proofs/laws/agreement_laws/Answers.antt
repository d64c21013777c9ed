use Rattle.carry_map.proofs.Agreeing.{agreement}
use Rattle.carry_map.proofs.laws.agreement_laws.Goals as goal

pub returns : goal.returns
returns c = agreement c.surface_laws.ensures c.map_laws.ensures.substitutions c.word_laws.ensures
