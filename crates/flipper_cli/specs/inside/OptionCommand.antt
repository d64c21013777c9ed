-- The command that `clap` reads the options by.
use Rattle.std.specs.Prelude.{true, Some, codes, List, [], ◌∷◌, fold}
use Rattle.clap.specs.Walk.{Rule, Text}
use Rattle.clap.specs.Simple.{App, new_app, new_rule, on_top, with_rule}
use Rattle.clap.specs.declared.builder.action.ArgAction.TheVariants.{Set}

-- the option `--name` with one value
abbrev pub option_rule : Text → Rule
option_rule name = record (new_rule name) { long = Some name; action = Some Set }

-- the names of all options
abbrev pub option_names : List Text
option_names =
    codes "powers"
    ∷ codes "curves"
    ∷ codes "tracks"
    ∷ []

-- a command without options, whose words have no program's name in front
abbrev pub bare_app : App
bare_app = on_top (λ s. record s { no_binary_name = true }) (new_app (codes "classify"))

abbrev pub options_app : App
options_app = fold (λ app name. with_rule app (option_rule name)) bare_app option_names
