use Rattle.std.proofs.Common.{◌≡◌, ℤ, pos, negsuc, inr, refl, subst, rules}
use Rattle.light_curves.specs.LightCurves.{IsCrossedAt}
use Rattle.light_curves.proofs.TouchedVertices.{true_or_false}
use Rattle.light_curves.proofs.curves_about.crossings_of.Goals as goal

pub returns-clause-value : goal.returns-clause-value
returns-clause-value c w are test =
    let near : c.new-x.result ≡ pos c.args.e = search rules in
    let far : c.inverse.result ≡ negsuc c.args.e = search rules in
    inr (
      λ light. true_or_false c.args.is_light c.if-is_light.false (test.1 light),
      (
        c.crossings_at.result,
        (
          c.crossings_at-2.result,
          (
            subst (λ (x : ℤ). IsCrossedAt c.args.tri.now w x c.crossings_at.result) near (c.crossings_at.ensures.value w are),
            subst (λ (x : ℤ). IsCrossedAt c.args.tri.now w x c.crossings_at-2.result) far
                (c.crossings_at-2.ensures.value w are),
            refl,
          ),
        ),
      ),
    )
