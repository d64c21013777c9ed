use Rattle.transition_matrix.proofs.Growing.{at_least, at_most}
use Rattle.transition_matrix.proofs.laws.growth_laws.Goals as goal

pub returns : goal.returns
returns c = record { at_least = at_least; at_most = at_most }
