-- The first setting in words, and the words behind it.
use Rattle.std.proofs.Common.{◌≡◌, ◌+◌, ◌&&◌, ◌∙◌, ℕ, List, [], ◌∷◌, length, map, Bool, true, false}
use Rattle.std.proofs.Common.{Option, Some, None, is_some, refl, sym, ap, arith, inl, inr}
use Rattle.std.specs.Prelude.{option_and_then}
use Rattle.std.specs.List.{list_any, position_or_len}
use Rattle.std.specs.Str.{bytes_eq}
use Rattle.std.proofs.lemmas.Bool.{and_right, cases_Bool}
use Rattle.flipper_cli.specs.Options.{Setting, are_fitting, budget_if_fitting, budget_of, is_equals_sign}
use Rattle.flipper_cli.specs.Options.{is_fitting, is_set, settings_from, settings_of, with_setting}
use Rattle.flipper_cli.proofs.Settings.{has_budget, some_more}

-- where no first byte passes, none does
first_place : (p : ℕ → Bool) (text : List ℕ) → position_or_len p text ≡ length text → list_any p text ≡ false
first_place p [] none = refl
first_place p (c ∷ text) none =
    elim (cases_Bool (p c)) [
      | inl passes ↦ (let zero_first : position_or_len p (c ∷ text) ≡ 0 = rw passes refl in absurd (omega arith))
      | inr fails ↦
          (let later : position_or_len p (c ∷ text) ≡ 1 + position_or_len p text = rw fails refl in
          let below : position_or_len p text ≡ length text = omega arith in
          rw fails (first_place p text below))
    ]

-- a word without `=` is a name, and the number stands in the next word
name_word : (word text : List ℕ) (words : List (List ℕ)) → word ≡ 45 ∷ 45 ∷ text → position_or_len is_equals_sign text ≡ length text
    → settings_from None (word ∷ words) ≡ settings_from (Some text) words
name_word word text words is none = rw is (rw (first_place is_equals_sign text none) refl)

-- the words, which stand in memory as `words`, begin with `--text`, and `text` has no `=`
pub record BeginsApart {X : Type 0} (f : X → List ℕ) (words others : List X) (text : List ℕ) : Type 0 where
  pub word : X
  pub words_are : words ≡ word ∷ others
  pub word_is : f word ≡ 45 ∷ 45 ∷ text
  pub no_equals : position_or_len is_equals_sign text ≡ length text

begins_apart : {X : Type 0} (f : X → List ℕ) (words others : List X) (text : List ℕ) → BeginsApart f words others text
    → settings_from None (map f words) ≡ settings_from (Some text) (map f others)
begins_apart f words others text begins =
    ap (λ (l : List _). settings_from None (map f l)) begins.words_are
    ∙ name_word (f begins.word) text (map f others) begins.word_is begins.no_equals

pub number_missing : {X : Type 0} (f : X → List ℕ) (words others : List X) (text : List ℕ) → BeginsApart f words others text
    → length others ≡ 0 → settings_from None (map f words) ≡ None
number_missing f words [] text begins none = begins_apart f words [] text begins
number_missing f words (number ∷ others) text begins none = absurd (omega arith)

pub number_apart : {X : Type 0} (f : X → List ℕ) (words others rest : List X) (number : X) (text digits : List ℕ)
    → BeginsApart f words others text → others ≡ number ∷ rest → digits ≡ f number
    → settings_from None (map f words) ≡ with_setting (record { name = text; number = digits }) (settings_from None (map f rest))
number_apart f words others rest number text digits begins more is =
    begins_apart f words others text begins
    ∙ ap (λ (l : List _). settings_from (Some text) (map f l)) more
    ∙ ap (λ (d : List ℕ). with_setting (record { name = text; number = d }) (settings_from None (map f rest))) (sym is)

-- ---- the test of all words

-- an option that the first setting is not
pub set_later : (name : List ℕ) (setting : Setting) (later : Option (List Setting)) (all : List Setting)
    → with_setting setting later ≡ Some all → bytes_eq setting.name name ≡ false
    → (others : List Setting) × (later ≡ Some others) × (is_set name all ≡ is_set name others)
set_later name setting later all is differs =
    let more = some_more setting later all is in
    (more.0, more.1, ap (is_set name) more.2 ∙ rw differs refl)

-- whether the settings of some words fit
abbrev test : Option (List Setting) → Bool
test o = is_some (option_and_then budget_if_fitting o)

-- the answer for `name` in the settings of later words
abbrev pub IsSetIn : Bool → List ℕ → Option (List Setting) → Type 0
IsSetIn answer name later = (all : List Setting) → later ≡ Some all → answer ≡ is_set name all

tests_later : (setting : Setting) (later : Option (List Setting)) → is_fitting setting ≡ true → IsSetIn false setting.name later
    → test (with_setting setting later) ≡ test later
tests_later setting None fits once = refl
tests_later setting (Some others) fits once =
    has_budget (setting ∷ others) ∙ rw (fits, ← once others refl) (sym (has_budget others))

fails_first : (setting : Setting) (later : Option (List Setting)) → is_fitting setting ≡ false → test (with_setting setting later) ≡ false
fails_first setting None fails = refl
fails_first setting (Some others) fails = has_budget (setting ∷ others) ∙ rw fails refl

fails_twice : (setting : Setting) (later : Option (List Setting)) → IsSetIn true setting.name later
    → test (with_setting setting later) ≡ false
fails_twice setting None twice = refl
fails_twice setting (Some others) twice =
    has_budget (setting ∷ others) ∙ rw (← twice others refl) (and_right (is_fitting setting) (false && are_fitting others) refl)

-- what the first setting of words says of the test of all
pub record Begins (words others : List (List ℕ)) (setting : Setting) : Type 0 where
  pub cut : settings_of words ≡ with_setting setting (settings_of others)

pub fits_later : (words others : List (List ℕ)) (setting : Setting) → Begins words others setting → is_fitting setting ≡ true
    → IsSetIn false setting.name (settings_of others) → is_some (budget_of words) ≡ is_some (budget_of others)
fits_later words others setting begins fits once = ap test begins.cut ∙ tests_later setting (settings_of others) fits once

pub misfit_first : (words others : List (List ℕ)) (setting : Setting) → Begins words others setting → is_fitting setting ≡ false
    → is_some (budget_of words) ≡ false
misfit_first words others setting begins fails = ap test begins.cut ∙ fails_first setting (settings_of others) fails

pub misfit_twice : (words others : List (List ℕ)) (setting : Setting) → Begins words others setting
    → IsSetIn true setting.name (settings_of others) → is_some (budget_of words) ≡ false
misfit_twice words others setting begins twice = ap test begins.cut ∙ fails_twice setting (settings_of others) twice
