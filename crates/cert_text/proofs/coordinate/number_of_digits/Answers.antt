use Rattle.cert_text.proofs.Digits.{number_from_parse}
use Rattle.cert_text.proofs.coordinate.number_of_digits.Goals as goal

pub returns : goal.returns
returns c =
    number_from_parse c.args.digits.now c.parse.result c.unwrap_or.result c.unwrap_or.ensures c.parse.ensures.value.0
    c.requires.digits c.requires.some
