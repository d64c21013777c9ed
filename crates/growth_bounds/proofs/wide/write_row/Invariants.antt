use Rattle.growth_bounds.specs.inside.Reached.{IsRow}
use Rattle.growth_bounds.proofs.wide.write_row.Given as goal

abbrev pub invariant-loop : goal.invariant-loop
invariant-loop l = IsRow l.m l.counter l.u
