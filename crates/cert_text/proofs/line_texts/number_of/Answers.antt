use Rattle.std.proofs.Common.{sym, ◌∙◌}
use Rattle.cert_text.proofs.Digits.{plain_from_parse}
use Rattle.cert_text.proofs.line_texts.number_of.Goals as goal

pub returns-then-is_plain : goal.returns-then-is_plain
returns-then-is_plain c =
    c.ok.ensures.value
    ∙ plain_from_parse c.args.text.now c.parse.result c.parse.ensures.value.0
    (sym c.is_plain.ensures ∙ c.if-is_plain.true)
