use Rattle.ideal_tri.proofs.Vertices.{vertex_laws}
use Rattle.ideal_tri.proofs.laws.vertex_laws.Goals as goal

pub returns : goal.returns
returns c = vertex_laws
