use Rattle.std.proofs.Common.{◌≡◌, List, map, string_bytes, Some, length}
use Rattle.flipper_cli.specs.Options.{Setting, is_set, settings_of}
use Rattle.flipper_cli.proofs.options.is_set.Given as goal

abbrev pub invariant-loop-setting : goal.invariant-loop-setting
invariant-loop-setting l = (all : List Setting) → settings_of (map string_bytes l.words) ≡ Some all → (rest : List Setting) × (settings_of (map string_bytes l.rest) ≡ Some rest) × (is_set l.name all ≡ is_set l.name rest)

abbrev pub decreases-loop-setting : goal.decreases-loop-setting
decreases-loop-setting l = length l.rest
