use Rattle.ideal_tri.proofs.Drawings.Tracing.{strand_laws}
use Rattle.ideal_tri.proofs.laws.strand_laws.Goals as goal

pub returns : goal.returns
returns c = strand_laws
