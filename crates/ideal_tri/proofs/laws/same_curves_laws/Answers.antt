use Rattle.ideal_tri.proofs.Drawings.SameCurves.{same_curves_laws}
use Rattle.ideal_tri.proofs.laws.same_curves_laws.Goals as goal

pub returns : goal.returns
returns c = same_curves_laws
