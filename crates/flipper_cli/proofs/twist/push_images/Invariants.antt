use Rattle.std.proofs.Common.{◌≡◌, ◌++◌, drop, codes, string_bytes}
use Rattle.std.specs.Fmt.{signed_decimal}
use Rattle.flipper_cli.proofs.Shown.{spaced}
use Rattle.flipper_cli.proofs.twist.push_images.Given as goal

abbrev pub invariant-loop-x : goal.invariant-loop-x
invariant-loop-x l =
    string_bytes l.lines ++ spaced signed_decimal (drop l.x-index l.images)
    ≡ (string_bytes l.fn.lines ++ codes "relabel") ++ spaced signed_decimal l.images
