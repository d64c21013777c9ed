use Rattle.curve_shorten.proofs.FlippedTotals.{is_flip_of}
use Rattle.curve_shorten.proofs.rounds.flip_law.Goals as goal

pub returns : goal.returns
returns c =
    is_flip_of c.args.tri.now c.args.w.now c.args.e c.edges.ensures.sound c.flip_laws.ensures
    c.map_laws.ensures.flips c.vector_laws.ensures c.requires.multicurve c.requires.flippable
