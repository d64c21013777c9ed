-- What `clap` sees in the texts of option words.
use Rattle.std.proofs.Common.{◌≡◌, ◌<◌, ◌≤◌, ◌==◌, is_some, nat_eq, ℕ, List, [], ◌∷◌, length, drop, Bool, true, false}
use Rattle.std.proofs.Common.{Option, Some, None, refl, ap, subst, arith}
use Rattle.std.specs.List.{list_any, before_first, position_or_len}
use Rattle.std.specs.Str.{all_ascii_digits, bytes_eq}
use Rattle.std.specs.Char.{is_ascii_digit}
use Rattle.std.proofs.lemmas.Bool.{and_parts, eqb-true, false_from_ne_true, or_parts}
use Rattle.std.proofs.lemmas.List.{take_all}
use Rattle.clap.specs.Lexer.{long_of, short_of}
use Rattle.flipper_cli.specs.Options.{is_equals_sign, is_option_word, is_short_number, limit_of, setting_in}
use Rattle.flipper_cli.proofs.OptionNumbers.{short_number}

-- the word is neither `--` nor a flag
pub record IsPlain (word : List ℕ) : Type 0 where
  pub dashes : bytes_eq word (45 ∷ 45 ∷ []) ≡ false
  pub long : long_of word ≡ None
  pub short : short_of word ≡ None

-- the word is `--`, more text, and what `clap` reads in it
pub record IsLong (word name : List ℕ) (value : Option (List ℕ)) : Type 0 where
  pub dashes : bytes_eq word (45 ∷ 45 ∷ []) ≡ false
  pub long : long_of word ≡ Some (name, value)

plain_from : (c : ℕ) (rest : List ℕ) → (c == 45) ≡ false → IsPlain (c ∷ rest)
plain_from c rest e = record {
  dashes = rw e refl;
  long = rw e refl;
  short = rw e refl;
}

no_dash : (c : ℕ) → is_ascii_digit c ≡ true → (c == 45) ≡ false
no_dash c digit = false_from_ne_true (c == 45) (λ dash.
    let bad : is_ascii_digit 45 ≡ true = subst (λ (x : ℕ). is_ascii_digit x ≡ true) (eqb-true c 45 dash) digit in absurd (cc))

-- a number is a plain word
digits_plain : (word : List ℕ) → all_ascii_digits word ≡ true → 0 < length word → IsPlain word
digits_plain [] digits some = absurd (omega arith)
digits_plain (c ∷ rest) digits some = plain_from c rest (no_dash c (and_parts (is_ascii_digit c) (all_ascii_digits rest) digits).0)

pub number_plain : (word : List ℕ) → is_short_number word ≡ true → IsPlain word
number_plain word number =
    let short = short_number word number in
    digits_plain word short.digits (omega (arith, short.some))

-- ---- words that begin with `--`

-- where no byte passes, all stands before the first that does
none_passes : (p : ℕ → Bool) (text : List ℕ) → list_any p text ≡ false → length text ≤ position_or_len p text
none_passes p [] none = omega arith
none_passes p (c ∷ text) none =
    let parts = or_parts (p c) (list_any p text) none in
    let rest = none_passes p text parts.1 in
    rw parts.0 (omega arith)

before_none : (p : ℕ → Bool) (text : List ℕ) → list_any p text ≡ false → before_first p text ≡ text
before_none p text none = take_all (position_or_len p text) text (none_passes p text none)

joined_text : (text : List ℕ) → list_any is_equals_sign text ≡ true
    → IsLong (45 ∷ 45 ∷ text) (setting_in text).name (Some (setting_in text).number)
joined_text [] has = absurd (cc)
joined_text (c ∷ text) has = record { dashes = refl; long = rw has refl }

named_text : (text : List ℕ) → list_any is_equals_sign text ≡ false → is_some (limit_of text) ≡ true
    → IsLong (45 ∷ 45 ∷ text) text None
named_text [] none known = absurd (cc)
named_text (c ∷ text) none known = record {
  dashes = refl;
  long = rw none (ap (λ (name : List ℕ). Some (name, None)) (before_none is_equals_sign (c ∷ text) none));
}

-- a word that begins with `--` is that and the rest
option_word : (P : List ℕ → List ℕ → Type 0) → ((text : List ℕ) → P (45 ∷ 45 ∷ text) text) → (word : List ℕ)
    → is_option_word word ≡ true → P word (drop 2 word)
option_word P at [] is = absurd (cc)
option_word P at (a ∷ []) is = absurd (let bad : false ≡ true = (and_parts (nat_eq 45 a) false is).1 in cc)
option_word P at (a ∷ (b ∷ text)) is =
    let first = and_parts (nat_eq 45 a) _ is in
    let second = and_parts (nat_eq 45 b) true first.1 in
    subst (λ (x : ℕ). P (x ∷ b ∷ text) text) (eqb-true 45 a first.0)
    (subst (λ (y : ℕ). P (45 ∷ y ∷ text) text) (eqb-true 45 b second.0) (at text))

pub joined_word : (word : List ℕ) → is_option_word word ≡ true → list_any is_equals_sign (drop 2 word) ≡ true
    → IsLong word (setting_in (drop 2 word)).name (Some (setting_in (drop 2 word)).number)
joined_word = option_word (λ word text. list_any is_equals_sign text ≡ true → IsLong word (setting_in text).name (Some (setting_in text).number))
    joined_text

pub named_word : (word : List ℕ) → is_option_word word ≡ true → list_any is_equals_sign (drop 2 word) ≡ false
    → is_some (limit_of (drop 2 word)) ≡ true → IsLong word (drop 2 word) None
named_word = option_word (λ word text. list_any is_equals_sign text ≡ false → is_some (limit_of text) ≡ true → IsLong word text None)
    named_text
