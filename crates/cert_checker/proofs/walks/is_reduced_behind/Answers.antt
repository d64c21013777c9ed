use Rattle.std.proofs.Common.{◌≡◌, ◌≢◌, ℤ, pos, get_or, to_z, of_z, w32, sym, ◌∙◌, arith, rules}
use Rattle.std.proofs.lemmas.Bool.Decides.{Decides-int_eq, not_from_Decides}
use Rattle.ideal_tri.specs.Labels.{inverse}
use Rattle.cert_checker.proofs.WalkReading.{reduced_step, reduced_stops, reduced_ends}
use Rattle.cert_checker.proofs.walks.is_reduced_behind.Goals as goal

pub loop-n-init : goal.loop-n-init
loop-n-init c = ((λ h. h), (λ h. h))

pub returns-then-eq : goal.returns-then-eq
returns-then-eq c =
    let n : ℤ = get_or c.args.letters.now c.loop-n.n-index (pos 0) in
    let same : to_z w32 (of_z w32 n) ≡ n = search rules in
    let is_x : c.new-x.result ≡ n = c.new-x.ensures ∙ same in
    let beside : c.new-x.result ≡ inverse c.loop-n.last =
    (Decides-int_eq c.new-x.result c.inverse.result).0 (sym c.eq.ensures ∙ c.if-eq.true) ∙ c.inverse.ensures in (
      λ t. search rules,
      λ h. absurd (reduced_stops _ _ _ _ c.loop-n.invariant _ (pos 0) c.loop-n-test.true is_x beside h),
    )

pub loop-n-preserved : goal.loop-n-preserved
loop-n-preserved c =
    let n : ℤ = get_or c.args.letters.now c.loop-n.n-index (pos 0) in
    let same : to_z w32 (of_z w32 n) ≡ n = search rules in
    let is_x : c.new-x.result ≡ n = c.new-x.ensures ∙ same in
    let apart : c.new-x.result ≢ inverse c.loop-n.last =
    λ e. not_from_Decides _ (Decides-int_eq c.new-x.result c.inverse.result) (sym c.eq.ensures ∙ c.if-eq.false)
    (e ∙ sym c.inverse.ensures) in
    reduced_step _ _ _ _ c.loop-n.invariant _ (pos 0) c.loop-n-test.true is_x apart

pub returns : goal.returns
returns c = (
  λ t. reduced_ends _ c.loop-n.last c.args.letters.now c.loop-n.n-index c.loop-n.invariant (omega arith),
  λ h. search rules,
)
