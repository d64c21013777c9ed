-- The source and the command that the code reads, as the definitions see them.
use Rattle.std.specs.Prelude.{◌≡◌, List, ℕ, Some, map, string_bytes, unwrap_or}
use Rattle.verdict_plan.specs.declared.budget.Budget.{Budget}
use Rattle.flipper_cli.specs.Commands.{file, builtin, show, image, twist, classify, check}
use Rattle.flipper_cli.specs.Commands.{Source as SourceOfWords, Command as CommandOfWords}
use Rattle.flipper_cli.specs.Options.{budget_of}
use Rattle.flipper_cli.specs.declared.commands.Command.{Command}
use Rattle.flipper_cli.specs.declared.commands.Command.TheVariants.{Show, Image, Twist, Classify}
use Rattle.flipper_cli.specs.declared.commands.Command.TheVariants.{Check}
use Rattle.flipper_cli.specs.declared.commands.Source.{Source}
use Rattle.flipper_cli.specs.declared.commands.Source.TheVariants.{File, Builtin}

abbrev pub seen_source : Source → SourceOfWords
seen_source (File name) = file name.now
seen_source (Builtin name) = builtin name.now

-- the budget of options that fit
abbrev pub budget_given : List (List ℕ) → Budget
budget_given options = unwrap_or (budget_of options) (record { powers = 0; curves = 0; tracks = 0 })

abbrev pub seen : Command → CommandOfWords
seen (Show source) = show (seen_source source)
seen (Image source word coordinates) = image (seen_source source) word.now coordinates.now
seen (Twist source coordinates hand) = twist (seen_source source) coordinates.now hand
seen (Classify source word options) =
    classify (seen_source source) word.now (budget_given (map string_bytes options.now))
seen (Check source word certificate) = check (seen_source source) word.now certificate.now

-- its options, if there are any, fit
abbrev pub HasBudget : Command → Type 0
HasBudget (Classify source word options) =
    budget_of (map string_bytes options.now) ≡ Some (budget_given (map string_bytes options.now))
HasBudget _ = Unit {0}
