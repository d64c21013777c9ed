use Rattle.ideal_tri.proofs.Letters.{letter_laws}
use Rattle.ideal_tri.proofs.laws.letter_laws.Goals as goal

pub returns : goal.returns
returns c = letter_laws
