use Rattle.std.proofs.Common.{rules, arith, All, IsTrue, subst}
use Rattle.std.proofs.lemmas.List.{take_all}
use Rattle.ideal_tri.specs.Relabellings.{IsCarried}
use Rattle.relabel.proofs.Acceptance.{carried_more, broken_at}
use Rattle.relabel.proofs.relabelling.least_broken.Goals as goal

pub returns-then-not-is_carried-clause-some : goal.returns-then-not-is_carried-clause-some
returns-then-not-is_carried-clause-some c = record {
  within = search rules;
  broken = broken_at c.args.from.now c.args.to.now c.args.relabelling.now c.triple.result c.loop-t.t
      c.triple.ensures.triple
      (λ w. let t : IsTrue c.is_carried.result = c.is_carried.ensures.1 w in grind arith);
  before = c.loop-t.invariant;
}

pub loop-t-preserved : goal.loop-t-preserved
loop-t-preserved c =
    carried_more c.args.from.now c.args.to.now c.args.relabelling.now c.triple.result c.loop-t.t
    (search rules) c.triple.ensures.triple
    c.loop-t.invariant (c.is_carried.ensures.0 (grind arith))

pub returns-clause-none : goal.returns-clause-none
returns-clause-none c =
    subst (All (IsCarried c.args.to.now c.args.relabelling.now))
    (take_all c.loop-t.t c.args.from.now (omega arith)) c.loop-t.invariant
