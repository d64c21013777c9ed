use Rattle.std.proofs.Common.{◌∙◌, ap, map, string_bytes, codes, List, ℕ, Option}
use Rattle.std.specs.Option.{option_map_or}
use Rattle.std.specs.Str.Parse.{digits_value}
use Rattle.flipper_cli.proofs.Settings.{budget_by, fits_by}
use Rattle.flipper_cli.proofs.options.read_options.Goals as goal

pub returns : goal.returns
returns c =
    let words = map string_bytes c.args.words.now in
    let some = fits_by words c.requires in
    let number = λ (name : List ℕ) (otherwise : ℕ).
    ap (λ (o : Option (List ℕ)). option_map_or (digits_value 10) o otherwise) (c.in-Ok.ensures.found name some.0 some.1.cut) in
    let powers = c.number_or.ensures ∙ number (codes "powers") 48 in
    let curves = c.number_or-2.ensures ∙ number (codes "curves") 256 in
    let tracks = c.number_or-3.ensures ∙ number (codes "tracks") 256 in
    budget_by words some.0 some.1 ∙ cc
