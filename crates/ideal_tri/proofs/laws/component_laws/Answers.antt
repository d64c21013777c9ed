use Rattle.ideal_tri.proofs.Components.{component_laws}
use Rattle.ideal_tri.proofs.laws.component_laws.Goals as goal

pub returns : goal.returns
returns c = component_laws
