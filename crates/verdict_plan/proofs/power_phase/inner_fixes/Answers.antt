use Rattle.tri_atlas.specs.Arena.{triangulation}
use Rattle.tri_atlas.specs.Paths.{moves_of}
use Rattle.std.proofs.Common.{subst}
use Rattle.ideal_tri.specs.Vectors.{IsMulticurve}
use Rattle.verdict_plan.proofs.InnerPowers.{inner_fixed}
use Rattle.verdict_plan.proofs.power_phase.inner_fixes.Goals as goal

pub returns : goal.returns
returns c k inner =
    let sound = c.base.ensures.sound.sound 0 c.base.ensures.sound.base in
    inner_fixed (triangulation c.args.atlas.now 0) (moves_of c.args.atlas.now c.args.word.now) c.args.w.now.numbers k
    sound (c.drawing_laws.ensures (triangulation c.args.atlas.now 0) sound) c.inner_laws.ensures.maps
    c.vector_laws.ensures c.power_laws.ensures
    (subst (λ t. IsMulticurve (triangulation c.args.atlas.now t) c.args.w.now.numbers) c.requires.base
    c.requires.coordinates.multicurve) inner
