use Rattle.ideal_tri.proofs.Hits.{hit_laws}
use Rattle.ideal_tri.proofs.laws.hit_laws.Goals as goal

pub returns : goal.returns
returns c = hit_laws
