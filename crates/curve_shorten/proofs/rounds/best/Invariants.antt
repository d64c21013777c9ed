use Rattle.curve_shorten.specs.inside.Rounds.{IsBestBefore}
use Rattle.curve_shorten.proofs.rounds.best.Given as goal

abbrev pub invariant-loop-e : goal.invariant-loop-e
invariant-loop-e l = IsBestBefore l.tri l.w l.e l.best
