use Rattle.std.proofs.Common.{◌≡◌, map, string_bytes, is_some, length}
use Rattle.flipper_cli.specs.Options.{budget_of}
use Rattle.flipper_cli.proofs.options.fits_options.Given as goal

abbrev pub invariant-loop-setting : goal.invariant-loop-setting
invariant-loop-setting l = is_some (budget_of (map string_bytes l.words)) ≡ is_some (budget_of (map string_bytes l.rest))

abbrev pub decreases-loop-setting : goal.decreases-loop-setting
decreases-loop-setting l = length l.rest
