use Rattle.growth_bounds.specs.inside.Reached.{NoneYet}
use Rattle.growth_bounds.proofs.wide.find_wide_growth.Given as goal

abbrev pub invariant-loop-k : goal.invariant-loop-k
invariant-loop-k l = NoneYet l.m l.k
