use Rattle.cert_text.proofs.Digits.{behind_from}
use Rattle.cert_text.proofs.line_texts.rest_behind.Goals as goal

pub returns : goal.returns
returns c = behind_from c.args.name.now c.args.text.now _ c.strip_prefix.ensures.cases
