use Rattle.std.proofs.Common.{map, string_bytes, rules, ◌≡◌, true, is_some}
use Rattle.flipper_cli.specs.Commands.{is_argument}
use Rattle.flipper_cli.specs.Options.{budget_of}
use Rattle.flipper_cli.proofs.Budgets.{classify_fits}
use Rattle.flipper_cli.proofs.commands.classify_command.Goals as goal

pub returns-then-fits_options : goal.returns-then-fits_options
returns-then-fits_options c =
    let is_file : is_argument c.args.file.now ≡ true = search rules in
    let is_word : is_argument c.args.word.now ≡ true = search rules in
    let some : is_some (budget_of (map string_bytes c.args.options.now)) ≡ true = search rules in
    classify_fits c.args.file.now c.args.word.now (map string_bytes c.args.options.now) _ is_file is_word some
    c.source_of.ensures
