use Rattle.ideal_tri.proofs.FlippedTriangulation.{flip_laws}
use Rattle.ideal_tri.proofs.laws.flip_laws.Goals as goal

pub returns : goal.returns
returns c = record { flips = flip_laws }
