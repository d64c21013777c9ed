use Rattle.std.proofs.Common.{◌≢◌, sym, ◌∙◌, [], subst, length, ap, arith, rules}
use Rattle.ideal_tri.specs.Triangulations.{IsLabel}
use Rattle.free_groupoid.proofs.Turns.{turns_more, turns_all, turns_not}
use Rattle.free_groupoid.proofs.walk.turns.Goals as goal

pub returns-then-ne : goal.returns-then-ne
returns-then-ne c =
    let some : c.args.letters.now ≢ [] = λ e. omega (arith, ap length e) in
    let other : c.x-item.result ≢ c.turn.result = c.letter_laws.ensures.differ _ _ _ c.ne.ensures c.if-ne.true in (
      λ t. search rules,
      λ (e, h). absurd (turns_not c.letter_laws.ensures _ _ _ _ _ _ _ c.loop-x.invariant c.loop-x-test.true c.x-item.is
          (λ f. other (f ∙ (sym c.turn.ensures))) some c.index-letters-count.is h),
    )

pub loop-x-preserved : goal.loop-x-preserved
loop-x-preserved c =
    turns_more _ _ _ _ _ _ _ c.loop-x.invariant c.loop-x-test.true c.x-item.is
    (c.letter_laws.ensures.agree _ _ _ c.ne.ensures c.if-ne.false ∙ c.turn.ensures)
    (subst (IsLabel c.args.tri.now) (sym c.x-item.is)
    (c.requires c.loop-x.x-index c.x-item.result c.loop-x-test.true))

pub returns : goal.returns
returns c =
    let some : c.args.letters.now ≢ [] = λ e. omega (arith, ap length e) in (
      λ t. (some, turns_all c.letter_laws.ensures _ _ _ _ _ _ c.loop-x.invariant (omega arith) some c.index-letters-count.is),
      λ h. search rules,
    )
