use Rattle.std.proofs.Common.{◌-◌, arith}
use Rattle.growth_bounds.proofs.WideOrder.{none_yet, passed, none_at_all, found_from_four, found_below_four}
use Rattle.growth_bounds.proofs.wide.find_wide_growth.Goals as goal

pub returns-then-find_growth-clause-found : goal.returns-then-find_growth-clause-found
returns-then-find_growth-clause-found c found =
    found_from_four c.args.m.now c.find_growth.new.u c.find_growth.new.v
    (c.find_growth.ensures.found c.if-find_growth.true)

pub loop-k-init : goal.loop-k-init
loop-k-init c = none_yet c.args.m.now (c.find_growth.ensures.none c.if-find_growth.false)

pub returns-then-grows_at-clause-found : goal.returns-then-grows_at-clause-found
returns-then-grows_at-clause-found c found =
    found_below_four c.args.m.now (3 - c.loop-k.k) c.loop-k.k c.grows_at.new.u c.grows_at.new.v (omega arith)
    c.loop-k.invariant (c.grows_at.ensures.grows c.if-grows_at.true)

pub loop-k-preserved : goal.loop-k-preserved
loop-k-preserved c =
    passed c.args.m.now (3 - c.loop-k.k) c.loop-k.k (omega arith) c.loop-k.invariant
    (c.grows_at.ensures.stays c.if-grows_at.false)

pub returns-clause-none : goal.returns-clause-none
returns-clause-none c none j to = none_at_all c.args.m.now c.loop-k.k (omega arith) c.loop-k.invariant j to
