-- The numbers of options.
use Rattle.std.proofs.Common.{◌≡◌, ◌<◌, ◌≤◌, ◌^◌, ◌∙◌, ℕ, List, [], ◌∷◌, length, true, Option, Some, None, Result, Ok, Err}
use Rattle.std.proofs.Common.{option_map, IfSome, arith, inl, inr}
use Rattle.std.specs.Prelude.{nat_le}
use Rattle.std.specs.Borrow.{Bor}
use Rattle.std.specs.Result.{OkIff, result_unwrap_or}
use Rattle.std.specs.Str.{all_ascii_digits, bytes_eq}
use Rattle.std.specs.Str.Parse.{digits_value, ParsesUnsigned}
use Rattle.std.proofs.lemmas.Bool.{and_parts, cases_Bool, leb-true}
use Rattle.std.proofs.lemmas.Str.Parse.{IsNumeralModel, digits_value_short, numerals_by_value, parse_digits, tells_all_ascii_digits}
use Rattle.flipper_cli.specs.Options.{Setting, are_fitting, is_short_number, number_text}
use Rattle.flipper_cli.proofs.Settings.{fits_first, fitting_number}

-- ---- digits

pub record IsShortNumber (text : List ℕ) : Type 0 where
  pub some : 1 ≤ length text
  pub few : length text ≤ 5
  pub digits : all_ascii_digits text ≡ true

pub short_number : (text : List ℕ) → is_short_number text ≡ true → IsShortNumber text
short_number text is =
    let parts = and_parts (nat_le 1 (length text)) _ is in
    let more = and_parts (nat_le (length text) 5) (all_ascii_digits text) parts.1 in
    record { some = leb-true 1 (length text) parts.0; few = leb-true (length text) 5 more.0; digits = more.1 }

own : IsNumeralModel (λ ds. all_ascii_digits ds ≡ true) (digits_value 10)
own = numerals_by_value _ tells_all_ascii_digits

parsed : {E : Type 0} (r : Result ℕ E) (some v top : ℕ) → OkIff r ((0 < some) × (v < top)) v → 0 < some → v < top
    → result_unwrap_or r 0 ≡ v
parsed (Ok x) some v top h is small = h.1
parsed (Err e) some v top h is small = absurd (h (is, small))

pub number_from_parse : {E : Type 0} (text : List ℕ) (r : Result ℕ E) (n : ℕ) → n ≡ result_unwrap_or r 0
    → ParsesUnsigned 32 10 text r → is_short_number text ≡ true → n ≡ digits_value 10 text
number_from_parse text r n is h number =
    let short = short_number text number in
    let small : digits_value 10 text < 10 ^ 5 = digits_value_short own text 5 short.digits short.few in
    is
    ∙ parsed r (length text) (digits_value 10 text) (2 ^ 32) (parse_digits own 32 text r h short.digits) (omega (arith, short.some))
    (omega arith)

-- ---- the number of one option among the settings

-- the text of a number that is set is one
pub set_number : (name : List ℕ) (all : List Setting) → are_fitting all ≡ true
    → IfSome (number_text name all) (λ text. is_short_number text ≡ true)
set_number name [] fits = tt
set_number name (setting ∷ others) fits =
    let first = fits_first setting others fits in
    elim (cases_Bool (bytes_eq setting.name name)) [
      | inl same ↦ rw same (fitting_number setting first.fits)
      | inr other ↦ rw other (set_number name others first.rest)
    ]

-- the text that a call found
pub text_found : (r : Option (Bor (List ℕ))) (o : Option (List ℕ)) (P : List ℕ → Type 0) → option_map (λ s. s.now) r ≡ o
    → IfSome o P → IfSome r (λ s. P s.now)
text_found None o P is some = tt
text_found (Some s) o P is some = rw (← is) at some
