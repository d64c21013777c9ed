use Rattle.std.proofs.Common.{pos}
use Rattle.ideal_tri.specs.Flips.{flipped}
use Rattle.cycle_stages.proofs.stages.flip_law.Goals as goal

pub returns-clause-enough : goal.returns-clause-enough
returns-clause-enough c =
    c.vector_laws.ensures.numbers.enough c.args.tri.now (flipped c.args.tri.now (pos c.args.e)) (pos c.args.e) _ _ _ _
    c.args.w.now c.edges.ensures.sound (c.map_laws.ensures.flips.is_flip c.args.tri.now c.args.e c.requires.flippable) c.requires.multicurve
