use Rattle.std.proofs.Common.{◌≡◌, ◌++◌, drop, codes, string_bytes}
use Rattle.std.specs.Fmt.{decimal}
use Rattle.flipper_cli.proofs.Shown.{spaced}
use Rattle.flipper_cli.proofs.twist.push_edges.Given as goal

abbrev pub invariant-loop-e : goal.invariant-loop-e
invariant-loop-e l =
    string_bytes l.lines ++ spaced decimal (drop l.e-index l.edges)
    ≡ (string_bytes l.fn.lines ++ codes "down") ++ spaced decimal l.edges
