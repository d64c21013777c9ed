use Rattle.std.proofs.Common.{◌≡◌, ◌∙◌, sym, arith}
use Rattle.ideal_tri.specs.Labels.{inverse}
use Rattle.free_groupoid.proofs.Joining.{none_cancelled, one_more_cancelled, cancelled_apart, all_cancelled}
use Rattle.free_groupoid.proofs.word.cancelled_letters.Goals as goal

pub loop-met-init : goal.loop-met-init
loop-met-init c = none_cancelled _ _ c.requires.word c.requires.more

pub loop-met-preserved : goal.loop-met-preserved
loop-met-preserved c =
    let opposite : c.index-word-count.result ≡ inverse c.index-more-met.result =
    c.letter_laws.ensures.agree _ _ _ c.ne.ensures c.if-ne.false ∙ c.inverse.ensures in
    one_more_cancelled c.label_laws.ensures c.word_laws.ensures c.letter_laws.ensures _ _ _ _ _ c.loop-met.invariant
    (omega (arith, c.loop-met-test.true, c.min-most.ensures)) (omega (arith, c.loop-met-test.true, c.min-most.ensures))
    c.index-word-count.is c.index-more-met.is opposite

pub returns-then-ne-clause-left : goal.returns-then-ne-clause-left
returns-then-ne-clause-left c =
    cancelled_apart c.label_laws.ensures c.word_laws.ensures c.letter_laws.ensures _ _ _ _ _ c.loop-met.invariant
    (omega (arith, c.loop-met-test.true, c.min-most.ensures)) (omega (arith, c.loop-met-test.true, c.min-most.ensures))
    c.index-word-count.is c.index-more-met.is
    (λ e. c.letter_laws.ensures.differ _ _ _ c.ne.ensures c.if-ne.true (e ∙ sym c.inverse.ensures))

pub returns-clause-left : goal.returns-clause-left
returns-clause-left c =
    all_cancelled c.word_laws.ensures _ _ _ _ c.loop-met.invariant c.min-most.ensures c.loop-met.auto.met-end
    c.loop-met-test.false
