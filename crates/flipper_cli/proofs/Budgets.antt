-- The budget of options that fit.
use Rattle.std.proofs.Common.{◌≡◌, ◌≤◌, ◌∙◌, sym, subst, ap, refl, ℕ, List, [], ◌∷◌, true, false, Option, Some, None, codes}
use Rattle.std.proofs.Common.{is_some, unwrap_or, inl, inr, arith}
use Rattle.std.specs.Option.{option_map_or}
use Rattle.std.specs.Str.{bytes_eq}
use Rattle.std.specs.Str.Parse.{digits_value}
use Rattle.std.proofs.lemmas.Bool.{and_parts, cases_Bool, leb-true}
use Rattle.std.proofs.lemmas.Slice.Eq.{bytes_eq-Decides}
use Rattle.cert_text.specs.Limits.{order_limit}
use Rattle.verdict_plan.specs.Budgets.{IsWithinLimits, curve_limit, track_limit}
use Rattle.verdict_plan.specs.declared.budget.Budget.{Budget}
use Rattle.flipper_cli.specs.Options.{Setting, are_fitting, budget_in, budget_of, is_number_up_to}
use Rattle.flipper_cli.specs.Options.{is_short_number, limit_of, number_of}
use Rattle.flipper_cli.specs.Commands.{Source, classify, classify_command, is_argument, source_of}
use Rattle.flipper_cli.specs.inside.SeenCommand.{budget_given}
use Rattle.flipper_cli.proofs.Settings.{budget_by, fits_by, fits_first}

-- ---- the limits

within : (limit : Option ℕ) (most : ℕ) (text : List ℕ) → limit ≡ Some most
    → option_map_or (λ m. is_number_up_to m text) limit false ≡ true → digits_value 10 text ≤ most
within limit most text is fits = leb-true (digits_value 10 text) most (and_parts (is_short_number text) _ (rw is at fits)).1

-- the number of an option is within its limit, if the number that stands for none is
number_small : (name : List ℕ) (most otherwise : ℕ) → limit_of name ≡ Some most → otherwise ≤ most → (all : List Setting)
    → are_fitting all ≡ true → number_of name otherwise all ≤ most
number_small name most otherwise is small [] fits = small
number_small name most otherwise is small (setting ∷ others) fits =
    let first = fits_first setting others fits in
    elim (cases_Bool (bytes_eq setting.name name)) [
      | inl same ↦
          (let limited = ap limit_of ((bytes_eq-Decides setting.name name).0 same) ∙ is in
          rw same (within (limit_of setting.name) most setting.number limited first.fits))
      | inr other ↦ rw other (number_small name most otherwise is small others first.rest)
    ]

within_limits : (all : List Setting) → are_fitting all ≡ true → IsWithinLimits (budget_in all)
within_limits all fits = record {
  powers = number_small (codes "powers") order_limit 48 refl (omega arith) all fits;
  curves = number_small (codes "curves") curve_limit 256 refl (omega arith) all fits;
  tracks = number_small (codes "tracks") track_limit 256 refl (omega arith) all fits;
}

-- the budget of words that fit is within the limits
pub budget_small : (words : List (List ℕ)) (b : Budget) → budget_of words ≡ Some b → IsWithinLimits b
budget_small words b is =
    let fits = fits_by words (ap is_some is) in
    let same : b ≡ budget_in fits.0 = ap (λ (o : Option Budget). unwrap_or o b) (sym is ∙ budget_by words fits.0 fits.1) in
    subst IsWithinLimits (sym same) (within_limits fits.0 fits.1.fits)

-- ---- the budget that the code sees

given : (o : Option Budget) (b : Budget) → is_some o ≡ true → o ≡ Some (unwrap_or o b)
given None b some = absurd (cc)
given (Some x) b some = refl

pub budget_is_given : (options : List (List ℕ)) → is_some (budget_of options) ≡ true
    → budget_of options ≡ Some (budget_given options)
budget_is_given options some = given (budget_of options) _ some

-- FILE, WORD and options that may stand there
pub classify_fits : (file word : List ℕ) (options : List (List ℕ)) (source : Source) → is_argument file ≡ true
    → is_argument word ≡ true → is_some (budget_of options) ≡ true → source ≡ source_of file
    → (classify_command file word options ≡ Some (classify source word (budget_given options)))
    × (budget_of options ≡ Some (budget_given options))
classify_fits file word options source is_file is_word some is_source =
    let is = budget_is_given options some in
    let asked : classify_command file word options ≡ Some (classify source word (budget_given options)) =
    rw (is_file, is_word, is, is_source) refl in
    (asked, is)
