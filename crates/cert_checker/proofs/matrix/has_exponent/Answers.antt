use Rattle.std.proofs.Common.{◌<◌, ◌≤◌, ◌↔◌, Bool, IsTrue, sym, subst, arith}
use Rattle.cert_checker.specs.TrackRules.{IsExponent}
use Rattle.cert_checker.proofs.Exponents.{found_power}
use Rattle.cert_checker.proofs.matrix.has_exponent.Goals as goal

pub returns-in-Ok : goal.returns-in-Ok
returns-in-Ok c =
    let not_zero = c.if-exponent-eq0.false in
    let some : 0 < c.args.exponent = omega arith in
    let few : c.args.exponent ≤ 1024 = c.if-exponent-gt-EXPONENT_LIMIT.false in
    subst (λ (b : Bool). IsTrue b ↔ IsExponent c.args.m.now c.args.exponent) (sym c.is_some.ensures)
    (found_power c.matrix_laws.ensures.powers c.args.m.now c.args.exponent some few c.primitive_exponent.result
    c.primitive_exponent.ensures.some c.primitive_exponent.ensures.within c.primitive_exponent.ensures.none)
