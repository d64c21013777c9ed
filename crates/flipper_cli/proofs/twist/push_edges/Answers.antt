use Rattle.std.proofs.Common.{◌∙◌, ◌++◌, ℕ, List, ap, codes, string_bytes, lit<, arith}
use Rattle.std.specs.Fmt.{decimal}
use Rattle.flipper_cli.proofs.Shown.{values_written}
use Rattle.flipper_cli.proofs.twist.push_edges.Goals as goal

pub returns : goal.returns
returns c =
    let pushed = c.in_ok-push.ensures in
    let text = string_bytes c.loop-e.lines in
    values_written decimal (string_bytes c.args.lines.now) (codes "down") text _ c.args.edges.now c.loop-e.e-index
    (omega (arith, c.loop-e-test.false)) c.loop-e.invariant
    (pushed.bytes ∙ ap (λ (z : List ℕ). text ++ z) (pushed.ascii (lit< tt)))
