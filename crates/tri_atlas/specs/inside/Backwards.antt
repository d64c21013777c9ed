-- What a move needs so that it can be read backwards.
use Rattle.ideal_tri.specs.Relabellings.{IsBijection}
use Rattle.tri_atlas.specs.Moves.{Move, flip, unflip, relabel}

-- the images of a relabelling are those of a bijection of labels
abbrev pub IsBijective : Move → Type 0
IsBijective (flip e a b c d) = Unit {0}
IsBijective (unflip e a b c d) = Unit {0}
IsBijective (relabel images) = IsBijection images
