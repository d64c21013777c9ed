use Rattle.growth_bounds.specs.inside.Reached.{IsReached}
use Rattle.growth_bounds.proofs.rule.find_growth.Given as goal

abbrev pub invariant-loop-j : goal.invariant-loop-j
invariant-loop-j l = IsReached l.m l.j l.u
