use Rattle.tri_atlas.specs.Arena.{triangulation}
use Rattle.curve_shorten.proofs.Ways.{one_crosses}
use Rattle.curve_shorten.proofs.short.test.Goals as goal

pub returns-in-None-clause-some : goal.returns-in-None-clause-some
returns-in-None-clause-some c =
    one_crosses (triangulation c.args.atlas.now c.args.curve.now.tri) c.args.curve.now.numbers
    (c.drawing_laws.ensures _ (c.base.ensures.sound.sound c.args.curve.now.tri c.requires.tri_in))
    c.requires.multicurve (c.in-Ok-true.ensures.value.0 c.in-Ok-true.field-0-test)
