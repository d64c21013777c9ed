-- Numbers in texts: a text of digits that is parsed, and what stands behind a name.
use Rattle.std.proofs.Common.{◌≡◌, ◌<◌, ◌-◌, ◌^◌, ℕ, List, length, drop, min, true, false, Bool, Option, Some, None}
use Rattle.std.proofs.Common.{Result, Ok, Err, ◌&&◌, nat_le, nat_lt, Bor, refl, sym, ◌∙◌, ap, inl, inr, arith, not}
use Rattle.std.proofs.Common.{if◌then◌else◌}
use Rattle.std.specs.List.{list_all, starts_with}
use Rattle.std.specs.Option.{option_map, MatchOption}
use Rattle.std.specs.Result.{OkIff, result_ok, result_unwrap_or}
use Rattle.std.specs.Str.{all_ascii_digits}
use Rattle.std.specs.Str.Parse.{digits_value, ParsesUnsigned}
use Rattle.std.specs.Str.Pattern.{FindsTextPrefix, StripsPrefix}
use Rattle.std.proofs.lemmas.Bool.{cases_lt, cases_Bool, true≢false}
use Rattle.std.proofs.lemmas.Bool.Decides.{nat_tests, Decides-eqb}
use Rattle.std.proofs.lemmas.Slice.Eq.{starts_is}
use Rattle.std.proofs.Math.Nat.{min-eq_left, min-eq_right}
use Rattle.std.proofs.lemmas.List.Recursion.{same_from_clauses}
use Rattle.std.proofs.lemmas.Str.Parse.{IsNumeralModel, numerals_by_value, tells_all_ascii_digits, parse_digits}
use Rattle.cert_text.specs.Shapes.{behind, has_needless_zero, number_of}

-- ---- digits

pub list_all-digits : (ds : List ℕ) → list_all (λ c. nat_le 48 c && nat_le c 57) ds ≡ all_ascii_digits ds
list_all-digits =
    same_from_clauses (list_all (λ c. nat_le 48 c && nat_le c 57)) all_ascii_digits
    (λ d rest. (nat_le 48 d && nat_le d 57) && rest) refl (λ _ _. refl) (λ _ _. refl)

own : IsNumeralModel (λ ds. all_ascii_digits ds ≡ true) (digits_value 10)
own = numerals_by_value _ tells_all_ascii_digits

-- a number that is parsed, or the largest one
capped : {E : Type 0} (some : ℕ) (r : Result ℕ E) (v top : ℕ) → OkIff r ((0 < some) × (v < top)) v → 0 < some
    → result_unwrap_or r (top - 1) ≡ min v (top - 1)
capped some (Ok x) v top h is = h.1 ∙ sym (min-eq_left (omega (arith, h.0.1)))
capped some (Err e) v top h is =
    elim (cases_lt v top) [
      | inl small ↦ absurd (h (is, small))
      | inr large ↦ sym (min-eq_right {n = top - 1} {m = v} (omega arith))
    ]

pub number_from_parse : {E : Type 0} (digits : List ℕ) (r : Result ℕ E) (n : ℕ) → n ≡ result_unwrap_or r (2 ^ 128 - 1)
    → ParsesUnsigned 128 10 digits r → all_ascii_digits digits ≡ true → 0 < length digits
    → n ≡ min (digits_value 10 digits) (2 ^ 128 - 1)
number_from_parse digits r n is h digit some =
    is
    ∙ capped (length digits) r (digits_value 10 digits) (2 ^ 128) (parse_digits own 128 digits r h digit) some

-- a number that is parsed, if the parser gives one
within : {E : Type 0} (some : ℕ) (r : Result ℕ E) (v top : ℕ) → OkIff r ((0 < some) × (v < top)) v
    → result_ok r ≡ (if nat_lt 0 some && nat_lt v top then Some v else None)
within some (Ok x) v top h =
    let a : nat_lt 0 some ≡ true = grind (arith, nat_tests) in
    let b : nat_lt v top ≡ true = grind (arith, nat_tests) in
    rw (a, b) (ap Some h.1)
within some (Err e) v top h =
    elim (cases_Bool (nat_lt 0 some && nat_lt v top)) [
      | inl e ↦ absurd (h (grind (arith, nat_tests)))
      | inr e ↦ rw e refl
    ]

both_true : (a b : Bool) → (a && b) ≡ true → (a ≡ true) × (b ≡ true)
both_true true b e = (refl, e)
both_true false b e = absurd (true≢false (sym e))

pub plain_from_parse : {E : Type 0} (digits : List ℕ) (r : Result ℕ E) → ParsesUnsigned 64 10 digits r
    → (all_ascii_digits digits && not (has_needless_zero digits)) ≡ true → result_ok r ≡ number_of digits
plain_from_parse digits r h plain =
    let digit = (both_true (all_ascii_digits digits) _ plain).0 in
    within (length digits) r (digits_value 10 digits) (2 ^ 64) (parse_digits own 64 digits r h digit)
    ∙ ap (λ (b : Bool). if b && (nat_lt 0 (length digits) && nat_lt (digits_value 10 digits) (2 ^ 64))
    then Some (digits_value 10 digits) else None) (sym plain)

-- ---- behind a name

pub behind_from : (name text : List ℕ) (r : Option (Bor (List ℕ)))
    → MatchOption r (FindsTextPrefix name text None) (λ x. StripsPrefix (FindsTextPrefix name) text x.now)
    → option_map (λ rest. rest.now) r ≡ behind name text
behind_from name text (Some x) h =
    let begins = (starts_is Decides-eqb text name _ refl).1 _ h.1.1 in
    rw begins (ap Some (h.2 ∙ ap (λ (k : ℕ). drop k text) h.1.0))
behind_from name text None h =
    elim (cases_Bool (starts_with _ text name)) [
      | inl e ↦ absurd (h _ ((starts_is Decides-eqb text name _ refl).0 e))
      | inr e ↦ rw e refl
    ]
