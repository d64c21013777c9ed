use Rattle.std.proofs.Common.{◌<◌, ℕ}
use Rattle.curve_shorten.specs.Descents.{IsLevel}
use Rattle.curve_shorten.proofs.rounds.first_level.Given as goal

abbrev pub invariant-loop-e : goal.invariant-loop-e
invariant-loop-e l = (f : ℕ) → f < l.e → ¬ IsLevel l.tri l.w f
