use Rattle.std.proofs.Common.{length}
use Rattle.flipper_cli.specs.Coordinates.{fields_of}
use Rattle.flipper_cli.proofs.Numbers.{AreRead}
use Rattle.flipper_cli.proofs.coordinates.numbers_in.Given as goal

abbrev pub invariant-loop-field : goal.invariant-loop-field
invariant-loop-field l = AreRead (fields_of l.text) (length l.yielded) l.numbers.items
