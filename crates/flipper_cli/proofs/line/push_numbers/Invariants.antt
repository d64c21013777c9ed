use Rattle.std.proofs.Common.{◌≡◌, ◌++◌}
use Rattle.std.specs.String.{string_bytes}
use Rattle.flipper_cli.proofs.Lines.{spaced}
use Rattle.flipper_cli.proofs.line.push_numbers.Given as goal

abbrev pub invariant-loop-k : goal.invariant-loop-k
invariant-loop-k l = string_bytes l.line ≡ string_bytes l.fn.line ++ spaced l.numbers l.k
