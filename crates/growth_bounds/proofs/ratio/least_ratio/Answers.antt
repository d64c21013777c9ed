use Rattle.std.proofs.Common.{◌+◌, ℕ, slice_index, sym, ◌∙◌, subst, arith}
use Rattle.std.proofs.lemmas.Bool.{ltb-true, ltb-false}
use Rattle.growth_bounds.specs.Rule.{IsLeastRatio}
use Rattle.growth_bounds.proofs.Ratios.{smaller_ratio, kept_ratio}
use Rattle.growth_bounds.proofs.ratio.least_ratio.Goals.{then-is_smaller, else-is_smaller}
use Rattle.growth_bounds.proofs.ratio.least_ratio.Goals as goal

pub loop-i-preserved : goal.loop-i-preserved
loop-i-preserved c =
    let v = slice_index c.args.v.now in
    let u = slice_index c.args.u.now in
    let P : ℕ × ℕ → Type 0 = λ pair. IsLeastRatio (c.loop-i.i + 1) v u pair in
    elim c.if-is_smaller.branch [
      | then-is_smaller w ↦
          let less = ltb-true _ _ (sym c.is_smaller.ensures ∙ w.if-is_smaller.true) in
          subst P (sym w.least-is)
          (smaller_ratio c.loop-i.i v u c.loop-i.least c.loop-i.invariant (λ k low. c.requires.positive k 0 (omega
          arith)) less)
      | else-is_smaller w ↦
          let most = ltb-false _ _ (sym c.is_smaller.ensures ∙ w.if-is_smaller.false) in
          subst P (sym w.least-is) (kept_ratio c.loop-i.i v u c.loop-i.least c.loop-i.invariant most)
    ]
