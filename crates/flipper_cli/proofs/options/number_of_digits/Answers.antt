use Rattle.flipper_cli.proofs.OptionNumbers.{number_from_parse}
use Rattle.flipper_cli.proofs.options.number_of_digits.Goals as goal

pub returns : goal.returns
returns c =
    number_from_parse c.args.digits.now c.parse.result c.unwrap_or.result c.unwrap_or.ensures c.parse.ensures.value.0 c.requires
