use Rattle.ideal_tri.proofs.Triples.{triple_laws}
use Rattle.ideal_tri.proofs.laws.triple_laws.Goals as goal

pub returns : goal.returns
returns c = triple_laws
