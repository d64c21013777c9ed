use Rattle.curve_shorten.proofs.Ways.{IsOnWay}
use Rattle.curve_shorten.proofs.short.shortened.Given as goal

abbrev pub invariant-loop : goal.invariant-loop
invariant-loop l = IsOnWay l.initial.atlas l.curve l.counter l.end l.atlas l.at
