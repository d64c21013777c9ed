use Rattle.std.proofs.Common.{◌<◌, length, slice_index, arith, rules}
use Rattle.carry_map.proofs.MiddleSteps.{picked_more}
use Rattle.carry_map.proofs.picked.picked.Goals as goal

pub loop-i-preserved : goal.loop-i-preserved
loop-i-preserved c =
    let less : c.loop-i.i < length c.args.all.now = search rules in
    picked_more c.args.all.now c.loop-i.picked.items c.push.new.self.items c.loop-i.i c.index-all-i.result
    c.in_ok-place.field-0 (λ k. slice_index c.args.numbers.now k)
    c.loop-i.invariant less c.index-all-i.is c.in_ok-place.ensures c.in_ok-push.ensures.items

pub returns : goal.returns
returns c =
    let high = c.loop-i.auto.i-end in
    let low = c.loop-i-test.false in
    let long = c.loop-i.invariant.0 in
    record {
      one_each = omega arith;
      each = λ i less. c.loop-i.invariant.1 i (omega arith);
    }
