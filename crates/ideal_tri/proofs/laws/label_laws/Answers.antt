use Rattle.ideal_tri.proofs.Labels.{label_laws}
use Rattle.ideal_tri.proofs.laws.label_laws.Goals as goal

pub returns : goal.returns
returns c = label_laws
