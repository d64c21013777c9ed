use Rattle.ideal_tri.proofs.Relabellings.{relabelling_laws}
use Rattle.ideal_tri.proofs.laws.relabelling_laws.Goals as goal

pub returns : goal.returns
returns c = relabelling_laws
