use Rattle.std.proofs.Common.{◌∙◌, ◌++◌, ap, get_or, lit<, arith}
use Rattle.std.specs.Fmt.{decimal}
use Rattle.std.specs.String.{string_bytes}
use Rattle.flipper_cli.proofs.Lines.{spaced_from_first, spaced_from_more}
use Rattle.flipper_cli.proofs.line.push_numbers.Goals.{then-k-gt0+in_ok-push, else-k-gt0}
use Rattle.flipper_cli.proofs.line.push_numbers.Goals as goal

pub loop-k-preserved : goal.loop-k-preserved
loop-k-preserved c =
    let ns = c.args.numbers.now in
    let k = c.loop-k.k in
    let written = c.in_ok-write.ensures.bytes in
    elim c.if-k-gt0.branch [
      | then-k-gt0+in_ok-push w ↦
          let pushed = w.in_ok-push.ensures in
          let parted = ap string_bytes w.line-is
          ∙ (pushed.bytes ∙ ap (λ z. string_bytes c.loop-k.line ++ z) (pushed.ascii (lit< tt))) in
          spaced_from_more ns k _ _ _ _ (omega arith) w.if-k-gt0.true c.loop-k.invariant parted written
      | else-k-gt0 w ↦
          spaced_from_first ns k _ _ _ (omega arith) w.if-k-gt0.false c.loop-k.invariant
          (written ∙ ap (λ l. string_bytes l ++ decimal (get_or ns k 0)) w.line-is)
    ]
