use Rattle.std.proofs.Common.{arith}
use Rattle.carry_map.proofs.RayReads.{read_same, read_other, read_all}
use Rattle.carry_map.proofs.rays.common_length.Goals as goal

pub loop-i-preserved : goal.loop-i-preserved
loop-i-preserved c =
    read_same c.label_laws.ensures c.args.u.now c.args.v.now c.loop-i.i c.loop-i.invariant c.index-u-i.result
    c.index-v-i.result (omega (arith, c.loop-i-test.true, c.min-most.ensures))
    (omega (arith, c.loop-i-test.true, c.min-most.ensures)) c.index-u-i.is c.index-v-i.is
    (c.letter_laws.ensures.agree _ _ _ c.ne.ensures c.if-ne.false)

pub returns-then-ne-clause-letters : goal.returns-then-ne-clause-letters
returns-then-ne-clause-letters c =
    read_other c.label_laws.ensures c.args.u.now c.args.v.now c.loop-i.i c.loop-i.invariant c.index-u-i.result
    c.index-v-i.result (omega (arith, c.loop-i-test.true, c.min-most.ensures))
    (omega (arith, c.loop-i-test.true, c.min-most.ensures)) c.index-u-i.is c.index-v-i.is
    (c.letter_laws.ensures.differ _ _ _ c.ne.ensures c.if-ne.true)

pub returns-clause-letters : goal.returns-clause-letters
returns-clause-letters c =
    read_all c.label_laws.ensures c.args.u.now c.args.v.now c.loop-i.i c.min-most.result c.loop-i.invariant
    c.min-most.ensures c.loop-i.auto.i-end c.loop-i-test.false
