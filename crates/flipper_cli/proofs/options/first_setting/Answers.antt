use Rattle.std.proofs.Common.{◌≡◌, ◌∙◌, rules, length, string_bytes, ap, sym, inr, ◌∷◌, List, ℕ}
use Rattle.std.specs.List.{position_or_len}
use Rattle.flipper_cli.specs.Options.{is_equals_sign}
use Rattle.flipper_cli.proofs.FirstSetting.{BeginsApart, number_apart, number_missing}
use Rattle.flipper_cli.proofs.options.first_setting.Goals as goal

pub returns-in_err-number-in-None-clause-cut : goal.returns-in_err-number-in-None-clause-cut
returns-in_err-number-in-None-clause-cut c =
    let text = c.in_ok-option.option.now in
    let none : position_or_len is_equals_sign text ≡ length text = search rules in
    let begins : BeginsApart string_bytes c.args.words.now c.in_ok-word.others.now text = record {
      word = c.in_ok-word.word.now;
      words_are = c.in_ok-word.ensures.cases.0;
      word_is =
          sym c.as_str.ensures.value ∙ c.in_ok-option.ensures.cases.1.1
          ∙ ap (λ (t : List ℕ). 45 ∷ 45 ∷ t) (sym c.in_ok-option.ensures.cases.2);
      no_equals = none;
    } in
    rw c.from_residual-in_err-number-in-None.ensures
    (inr (number_missing string_bytes _ _ text begins c.in_err-number-in-None.ensures.cases))

pub returns-in_ok-number-in-None-clause-cut : goal.returns-in_ok-number-in-None-clause-cut
returns-in_ok-number-in-None-clause-cut c =
    let text = c.in_ok-option.option.now in
    let none : position_or_len is_equals_sign text ≡ length text = search rules in
    let begins : BeginsApart string_bytes c.args.words.now c.in_ok-word.others.now text = record {
      word = c.in_ok-word.word.now;
      words_are = c.in_ok-word.ensures.cases.0;
      word_is =
          sym c.as_str.ensures.value ∙ c.in_ok-option.ensures.cases.1.1
          ∙ ap (λ (t : List ℕ). 45 ∷ 45 ∷ t) (sym c.in_ok-option.ensures.cases.2);
      no_equals = none;
    } in
    number_apart string_bytes _ _ _ c.in_ok-number-in-None.number.now text _ begins c.in_ok-number-in-None.ensures.cases.0
    c.as_str-number.ensures.value
