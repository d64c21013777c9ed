use Rattle.std.proofs.Common.{arith}
use Rattle.free_groupoid.proofs.Joining.{none_common, one_more_common, ends_differ, all_common}
use Rattle.free_groupoid.proofs.word.common_letters.Goals as goal

pub loop-met-init : goal.loop-met-init
loop-met-init c = none_common c.word_laws.ensures.reduction _ _ c.requires.word c.requires.more

pub loop-met-preserved : goal.loop-met-preserved
loop-met-preserved c =
    one_more_common c.label_laws.ensures c.word_laws.ensures _ _ _ _ _ c.loop-met.invariant
    (omega (arith, c.loop-met-test.true, c.min-most.ensures)) (omega (arith, c.loop-met-test.true, c.min-most.ensures))
    c.index-word-count.is c.index-more-others.is
    (c.letter_laws.ensures.agree _ _ _ c.ne.ensures c.if-ne.false)

pub returns-then-ne-clause-left : goal.returns-then-ne-clause-left
returns-then-ne-clause-left c =
    ends_differ c.label_laws.ensures c.word_laws.ensures _ _ _ _ _ c.loop-met.invariant
    (omega (arith, c.loop-met-test.true, c.min-most.ensures)) (omega (arith, c.loop-met-test.true, c.min-most.ensures))
    c.index-word-count.is c.index-more-others.is
    (c.letter_laws.ensures.differ _ _ _ c.ne.ensures c.if-ne.true)

pub returns-clause-left : goal.returns-clause-left
returns-clause-left c =
    all_common c.word_laws.ensures _ _ _ _ c.loop-met.invariant c.min-most.ensures c.loop-met.auto.met-end
    c.loop-met-test.false
