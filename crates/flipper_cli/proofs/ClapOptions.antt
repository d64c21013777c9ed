-- `clap` as the command that reads the options: it takes words that fit, and finds their settings.
use Rattle.std.proofs.Common.{◌≡◌, ℕ, Option, Some, List, [], ◌∷◌, length, map, fold, Bool, true, false}
use Rattle.std.proofs.Common.{None, is_some, refl, sym, ◌∙◌, ap, subst, arith, codes, if◌then◌else◌}
use Rattle.std.proofs.Common.{inl, inr}
use Rattle.std.specs.List.{list_all}
use Rattle.std.specs.Str.{bytes_eq}
use Rattle.std.proofs.lemmas.Bool.{and_from, and_parts, cases_Bool, eqb-true}
use Rattle.std.proofs.lemmas.Slice.Eq.{bytes_eq-Decides}
use Rattle.clap.specs.Walk.{Row, Rule, Text, default_rows, first_of, is_empty, nothing_held, walk_from, with_default}
use Rattle.clap.specs.Simple.{App, HasMatchesOf, Shape, built, is_simple, matches_of}
use Rattle.clap.specs.Takes.{takes}
use Rattle.clap.specs.Matches.{first_value, found_of}
use Rattle.clap.specs.declared.parser.matches.ArgMatches.{ArgMatches}
use Rattle.clap.proofs.WalkLemmas.{first_value-rows}
use Rattle.clap.specs.declared.builder.value_parser.Reading.{Reading}
use Rattle.flipper_cli.specs.Options.{Setting, limit_of, number_text}
use Rattle.flipper_cli.specs.inside.OptionCommand.{options_app}
use Rattle.flipper_cli.proofs.ClapSteps.{IsOption}
use Rattle.flipper_cli.proofs.Settings.{FitsBy}
use Rattle.flipper_cli.proofs.ClapWalk.{HasOptions, Walks, are_new, setting_row, walk_words}

abbrev pub options_shape : Shape
options_shape = (built options_app).top

-- ---- each option that fits is one of the command

-- a name that has a limit is this option's, or has one among the limits behind it
this_or_later : (P : Text → Type 0) (option name : Text) (limit : ℕ) (later : Option ℕ) → P option
    → (is_some later ≡ true → P name)
    → is_some (if bytes_eq name option then Some limit else later) ≡ true → P name
this_or_later P option name limit later this rest known =
    elim (cases_Bool (bytes_eq name option)) [
      | inl same ↦ subst P (sym ((bytes_eq-Decides name option).0 same)) this
      | inr other ↦ rest (rw other at known)
    ]

-- what holds of the name of each option holds of the names that have a limit
record HoldsOfEach (P : Text → Type 0) : Type 0 where
  powers : P (codes "powers")
  curves : P (codes "curves")
  tracks : P (codes "tracks")

each_name : (P : Text → Type 0) → HoldsOfEach P → (name : Text) → is_some (limit_of name) ≡ true → P name
each_name P each name =
    this_or_later P (codes "powers") name _ _ each.powers
    (this_or_later P (codes "curves") name _ _ each.curves
    (this_or_later P (codes "tracks") name _ _ each.tracks
    (λ none. absurd (cc))))

has_options : HasOptions options_shape
has_options = each_name (IsOption options_shape.rules) (record {
  powers = record { by_long = refl; by_id = refl };
  curves = record { by_long = refl; by_id = refl };
  tracks = record { by_long = refl; by_id = refl };
})

-- ---- no option has a default

same_rows : (b : Bool) (rows later : List Row) → later ≡ rows → (if b then rows else later) ≡ rows
same_rows true rows later is = refl
same_rows false rows later is = is

no_default : (id : Text) (how : Reading) (defaults : List Text) (rows : List Row) → is_empty defaults ≡ true
    → default_rows id how defaults rows ≡ rows
no_default id how [] rows none = refl
no_default id how (v ∷ vs) rows none = let bad = eqb-true (length (v ∷ vs)) 0 none in absurd (omega arith)

no_defaults : (rules : List Rule) (rows : List Row) → list_all (λ a. is_empty a.defaults) rules ≡ true → fold with_default rows rules ≡ rows
no_defaults [] rows none = refl
no_defaults (a ∷ rules) rows none =
    let parts = and_parts (is_empty a.defaults) _ none in
    ap (λ (rs : List Row). fold with_default rs rules) (same_rows _ rows _ (no_default _ _ a.defaults rows parts.0))
    ∙ no_defaults rules rows parts.1

-- ---- the words

walked_words : (words : List Text) (all : List Setting) → FitsBy words all → Walks options_shape (walk_from nothing_held) words (map setting_row all)
walked_words words all by = walk_words options_shape has_options None words all by.cut nothing_held by.fits (nothing_yet all) refl
  where
    nothing_yet : (l : List Setting) → are_new l [] ≡ true
    nothing_yet [] = refl
    nothing_yet (setting ∷ l) = nothing_yet l

pub takes_words : (a : App) (words : List Text) (all : List Setting) → a ≡ options_app → FitsBy words all → takes a words ≡ true
takes_words a words all is by =
    let w = walked_words words all by in
    ap (λ (x : App). takes x words) is ∙ rw w.walks (and_from _ _ w.passes (and_from _ true w.settles refl))

finds_words : (words : List Text) (all : List Setting) → FitsBy words all → matches_of options_app words ≡ map setting_row all
finds_words words all by =
    let w = walked_words words all by in
    rw w.walks (no_defaults options_shape.rules _ refl ∙ w.finds)

first_row : (name : Text) (all : List Setting) → first_of name (map setting_row all) ≡ number_text name all
first_row name [] = refl
first_row name (setting ∷ all) =
    elim (cases_Bool (bytes_eq setting.name name)) [
      | inl same ↦ rw same refl
      | inr other ↦ rw other (first_row name all)
    ]

-- the text of each option's number is what is found
pub finds_text : (a : App) (words : List Text) (all : List Setting) (m : ArgMatches) → a ≡ options_app → FitsBy words all
    → HasMatchesOf a words m → (name : Text) → first_value (found_of m) name ≡ number_text name all
finds_text a words all m is by has name =
    let rows = (has (ap is_simple is)).0 ∙ ap (λ (x : App). matches_of x words) is ∙ finds_words words all by in
    first_value-rows (found_of m) name ∙ ap (first_of name) rows ∙ first_row name all
