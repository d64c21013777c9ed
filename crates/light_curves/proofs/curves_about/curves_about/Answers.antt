use Rattle.std.proofs.Common.{ℕ, List, sym, subst, ◌∙◌}
use Rattle.light_curves.specs.inside.Touched.{AreTouched}
use Rattle.light_curves.proofs.curves_about.curves_about.Goals as goal

pub crossings-numbers-requires-clause-touched : goal.crossings-numbers-requires-clause-touched
crossings-numbers-requires-clause-touched c =
    subst (λ (w : List ℕ). AreTouched c.tri-tri.result.now w c.deref.result.now)
    (c.values.ensures.value ∙ sym c.values-2.ensures.value)
    (subst (AreTouched c.tri-tri.result.now c.values.result.now) (sym c.deref.ensures.value) c.in_ok-touched.ensures)
