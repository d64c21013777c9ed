use Rattle.std.proofs.Common.{arith}
use Rattle.curve_shorten.proofs.Ways.{is_short, is_stuck, total_is_low, total_is_high}
use Rattle.curve_shorten.proofs.short.descend.Goals as goal

pub returns-then-total-gt2-clause-refused : goal.returns-then-total-gt2-clause-refused
returns-then-total-gt2-clause-refused c =
    is_stuck c.args.atlas.now c.shortened.new.atlas c.args.curve.now c.in_ok-short.short c.in_ok-test.ensures.small
    c.in_ok-test.ensures.one c.in_ok-test.ensures.free c.in_ok-short.ensures.end
    (total_is_high c.in_ok-short.short.coords.numbers c.total.result c.total.ensures (omega arith))

pub returns-clause-accepted : goal.returns-clause-accepted
returns-clause-accepted c =
    is_short c.args.atlas.now c.shortened.new.atlas c.args.curve.now c.in_ok-short.short c.in_ok-test.ensures.small
    c.in_ok-test.ensures.one c.in_ok-test.ensures.free c.in_ok-short.ensures.end
    (total_is_low c.in_ok-short.short.coords.numbers c.total.result c.total.ensures (omega arith))
