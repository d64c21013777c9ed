use Rattle.relabel.proofs.Pushes.{push_laws}
use Rattle.relabel.proofs.laws.push_laws.Goals as goal

pub returns : goal.returns
returns c = push_laws c.atlas_laws.ensures
