use Rattle.std.proofs.Common.{◌∙◌, ◌++◌, ℕ, List, ap, codes, string_bytes, lit<, arith}
use Rattle.std.specs.Fmt.{signed_decimal}
use Rattle.flipper_cli.proofs.Shown.{values_written}
use Rattle.flipper_cli.proofs.twist.push_images.Goals as goal

pub returns : goal.returns
returns c =
    let pushed = c.in_ok-push.ensures in
    let text = string_bytes c.loop-x.lines in
    values_written signed_decimal (string_bytes c.args.lines.now) (codes "relabel") text _ c.args.images.now
    c.loop-x.x-index (omega (arith, c.loop-x-test.false)) c.loop-x.invariant
    (pushed.bytes ∙ ap (λ (z : List ℕ). text ++ z) (pushed.ascii (lit< tt)))
