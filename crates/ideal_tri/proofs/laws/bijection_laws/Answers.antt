use Rattle.ideal_tri.proofs.InverseImages.{bijection_laws}
use Rattle.ideal_tri.proofs.laws.bijection_laws.Goals as goal

pub returns : goal.returns
returns c = bijection_laws
