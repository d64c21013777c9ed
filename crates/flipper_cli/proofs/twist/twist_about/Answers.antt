use Rattle.std.proofs.Common.{Err, subst}
use Rattle.tri_atlas.specs.Arena.{triangulation}
use Rattle.edge_coords.specs.Coordinates.{Coordinates}
use Rattle.surface_lib.specs.Described.{described}
use Rattle.surface_lib.specs.declared.twister.Hand.TheVariants.{Plus}
use Rattle.twist_compile.specs.TwistPaths.{IsCompiled}
use Rattle.flipper_cli.proofs.Twisted.{are_steps, twist_refused}
use Rattle.flipper_cli.proofs.twist.twist_about.Goals as goal

pub returns-in_err-parts-clause-report : goal.returns-in_err-parts-clause-report
returns-in_err-parts-clause-report c =
    let at_base = rw c.base.ensures.number at c.in_ok-curve.ensures.accepted in
    let here = rw at_base at c.in_ok-curve.ensures.here in
    let Refuses : Coordinates → Type 0 =
    λ curve. IsCompiled (triangulation c.args.s.now.atlas curve.tri) curve.numbers Plus (Err c.in_err-parts.field-0.0) in
    twist_refused (described c.args.s.now) c.args.hand c.args.numbers.now _ c.from_residual-in_err-parts.result
    here.multicurve here.small (subst Refuses at_base c.in_err-parts.ensures.refused) c.from_residual-in_err-parts.ensures.1

pub returns-clause-printed : goal.returns-clause-printed
returns-clause-printed c =
    let at_base = rw c.base.ensures.number at c.in_ok-curve.ensures.accepted in
    let here = rw at_base at c.in_ok-curve.ensures.here in
    let sound = rw c.base.ensures.number at (c.base.ensures.sound.sound _ c.base.ensures.here) in
    are_steps c.twist_laws.ensures _ c.args.numbers.now c.args.hand c.in_ok-parts.parts _ sound here.multicurve
    (rw at_base at c.in_ok-parts.ensures.parts) c.in_ok-lines.ensures
