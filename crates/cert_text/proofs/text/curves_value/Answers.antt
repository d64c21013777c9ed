use Rattle.std.proofs.Common.{arith, ◌∙◌}
use Rattle.serde_json.specs.Data.{string}
use Rattle.cert_text.specs.Texts.{curve_text}
use Rattle.cert_text.proofs.Lists.{all_made, in_one}
use Rattle.cert_text.proofs.text.curves_value.Goals as goal

pub returns : goal.returns
returns c =
    c.from.ensures
    ∙ all_made (λ line. string (curve_text line)) c.args.lines.now c.loop-line.line-index _ (omega arith)
    c.loop-line.invariant
    ∙ in_one curve_text string c.args.lines.now
