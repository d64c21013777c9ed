use Rattle.std.proofs.Common.{None, lit<}
use Rattle.std.proofs.lemmas.Str.Pattern.{strip_prefix_char}
use Rattle.flipper_cli.proofs.Sources.{source-file}
use Rattle.flipper_cli.proofs.commands.source_of.Goals as goal

pub returns-in-None : goal.returns-in-None
returns-in-None c =
    source-file c.args.file.now (strip_prefix_char 64 c.args.file.now None c.in-None.ensures.cases (lit< tt))
