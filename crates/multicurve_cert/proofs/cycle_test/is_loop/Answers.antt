use Rattle.std.proofs.Common.{rules, arith, length, ◌-◌, ◌≢◌, sym, ◌∙◌, ap, subst}
use Rattle.std.proofs.lemmas.Bool.Decides.{Decides-int_eq, not_from_Decides}
use Rattle.ideal_tri.specs.Labels.{inverse}
use Rattle.ideal_tri.specs.Triangulations.{IsLabel, triangle_of}
use Rattle.multicurve_cert.proofs.CycleTests.{follows_none, follows_more, follows_here, follows_all}
use Rattle.multicurve_cert.proofs.CycleTests.{loop_from_last, last_from_loop}
use Rattle.multicurve_cert.proofs.cycle_test.is_loop.Goals as goal

pub loop-x-init : goal.loop-x-init
loop-x-init c =
    follows_none _ _ _
    (subst (IsLabel c.args.tri.now) (sym c.index-w-w.is)
    (c.requires.labels (length c.args.w.now - 1) c.index-w-w.result (omega (arith, c.requires.some))))

pub place-requires : goal.place-requires
place-requires c =
    subst (IsLabel c.args.tri.now) (sym c.inverse-back.ensures)
    (c.label_laws.ensures.label c.args.tri.now c.loop-x.last c.loop-x.invariant.label)

pub loop-x-preserved : goal.loop-x-preserved
loop-x-preserved c =
    let apart : c.x-item.result ≢ inverse c.loop-x.last =
    λ e. not_from_Decides _ (Decides-int_eq c.x-item.result c.inverse-back.result)
    (sym c.eq.ensures ∙ c.if-eq.false)
    (e ∙ sym c.inverse-back.ensures) in
    follows_more _ _ _ _ _ _ c.loop-x.invariant c.loop-x-test.true c.x-item.is
    (subst (IsLabel c.args.tri.now) (sym c.x-item.is)
    (c.requires.labels c.loop-x.x-index c.x-item.result c.loop-x-test.true)) (
      ap (triangle_of c.args.tri.now) (sym c.inverse-back.ensures) ∙ sym c.place.ensures.triangle ∙ c.if-place.false
          ∙ c.place-in-loop-x.ensures.triangle,
      apart,
    )

pub returns-then-place : goal.returns-then-place
returns-then-place c = (
  λ t. search rules,
  λ h. let follows = follows_here _ _ _ _ _ _ c.loop-x.invariant c.loop-x-test.true c.x-item.is
      (last_from_loop c.letter_laws.ensures _ _ _ c.index-w-w.is h) in
      absurd (c.if-place.true (c.place.ensures.triangle
      ∙ ap (triangle_of c.args.tri.now) c.inverse-back.ensures ∙ follows.0 ∙ sym c.place-in-loop-x.ensures.triangle)),
)

pub returns-then-eq : goal.returns-then-eq
returns-then-eq c = (
  λ t. search rules,
  λ h. let follows = follows_here _ _ _ _ _ _ c.loop-x.invariant c.loop-x-test.true c.x-item.is
      (last_from_loop c.letter_laws.ensures _ _ _ c.index-w-w.is h) in
      absurd (follows.1
      ((Decides-int_eq c.x-item.result c.inverse-back.result).0 (sym c.eq.ensures ∙ c.if-eq.true)
      ∙ c.inverse-back.ensures)),
)

pub returns : goal.returns
returns c = (
  λ t. loop_from_last c.letter_laws.ensures _ _ _ c.requires.labels c.requires.some c.index-w-w.is
      (follows_all _ _ _ _ _ c.loop-x.invariant c.loop-x-test.false),
  λ h. search rules,
)
