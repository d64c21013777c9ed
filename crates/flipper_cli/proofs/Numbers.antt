-- Laws of the numbers on the command line.
use Rattle.std.proofs.Common.{◌≡◌, ◌<◌, ◌+◌, ◌-◌, ◌^◌, ◌++◌, ℕ, List, [], ◌∷◌, length, take, map, min, get_or}
use Rattle.std.proofs.Common.{unwrap_or}
use Rattle.std.proofs.Common.{true, false, Bool, not, Option, Some, None, Result, Ok, Err, if◌then◌else◌, ◌&&◌}
use Rattle.std.proofs.Common.{refl, sym, ◌∙◌, ap, inl, inr, arith}
use Rattle.std.specs.List.{list_all, position, position_or_len}
use Rattle.std.specs.Result.{OkIff, result_unwrap_or}
use Rattle.std.specs.Str.{all_ascii_digits}
use Rattle.std.specs.Str.Parse.{digits_value, ParsesUnsigned}
use Rattle.std.proofs.lemmas.Bool.{cases_lt}
use Rattle.std.proofs.lemmas.Bool.Decides.{nat_tests}
use Rattle.std.proofs.Math.Nat.{min-eq_left, min-eq_right}
use Rattle.std.proofs.lemmas.List.{take_more, take_all, map-append, get_or_default, length_push}
use Rattle.std.proofs.lemmas.List.Recursion.{same_from_clauses}
use Rattle.std.proofs.lemmas.List.Sums.{position_or_len_is}
use Rattle.std.proofs.lemmas.Str.Parse.{IsNumeralModel, numerals_by_value, tells_all_ascii_digits, parse_digits}
use Rattle.surface_lib.specs.Spelling.{is_digit}
use Rattle.flipper_cli.specs.Coordinates.{fields_of, is_number, number_in, numbers_in}
use Rattle.flipper_cli.specs.Coordinates.{numbers_unless}
use Rattle.flipper_cli.specs.declared.coordinates.NumbersError.TheVariants.{BadNumber}

-- ---- one field

pub list_all-digits : (ds : List ℕ) → list_all is_digit ds ≡ all_ascii_digits ds
list_all-digits =
    same_from_clauses (list_all is_digit) all_ascii_digits (λ d rest. is_digit d && rest) refl (λ _ _. refl)
    (λ _ _. refl)

own : IsNumeralModel (λ ds. all_ascii_digits ds ≡ true) (digits_value 10)
own = numerals_by_value _ tells_all_ascii_digits

-- a number that is parsed, or the largest one
capped : {E : Type 0} (some : ℕ) (r : Result ℕ E) (v top : ℕ) → OkIff r ((0 < some) × (v < top)) v → 0 < some
    → result_unwrap_or r (top - 1) ≡ min v (top - 1)
capped some (Ok x) v top h is = h.1 ∙ sym (min-eq_left (omega (arith, h.0.1)))
capped some (Err e) v top h is =
    elim (cases_lt v top) [
      | inl small ↦ absurd (h (is, small))
      | inr large ↦ sym (min-eq_right {n = top - 1} {m = v} (omega arith))
    ]

pub number_from_parse : {E : Type 0} (digits : List ℕ) (r : Result ℕ E) (n : ℕ) → n ≡ result_unwrap_or r (2 ^ 128 - 1)
    → ParsesUnsigned 128 10 digits r → all_ascii_digits digits ≡ true → 0 < length digits → n ≡ number_in digits
number_from_parse digits r n is h digit some =
    is
    ∙ capped (length digits) r (digits_value 10 digits) (2 ^ 128) (parse_digits own 128 digits r h digit) some

-- the two answers of the code at a field
some_in : (b : Bool) (m n : ℕ) → (if b then Some m else None) ≡ Some n → (b ≡ true) × (n ≡ m)
some_in true m n e = (refl, sym (ap (λ (o : Option ℕ). unwrap_or o 0) e))
some_in false m n e = absurd (cc)

none_in : (b : Bool) (m : ℕ) → (if b then Some m else None) ≡ None → b ≡ false
none_in true m e = absurd (cc)
none_in false m e = refl

pub some_from : (b : Bool) (m n : ℕ) (r : Option ℕ) → r ≡ (if b then Some m else None) → r ≡ Some n
    → (b ≡ true) × (n ≡ m)
some_from b m n r is some = some_in b m n (sym is ∙ some)

pub none_from : (b : Bool) (m : ℕ) (r : Option ℕ) → r ≡ (if b then Some m else None) → r ≡ None → b ≡ false
none_from b m r is none = none_in b m (sym is ∙ none)

-- ---- all fields

-- the first n fields are numbers, and these are read
pub record AreRead (fields : List (List ℕ)) (n : ℕ) (numbers : List ℕ) : Type 0 where
  pub as_many : length numbers ≡ n
  pub good : (k : ℕ) (d : List ℕ) → k < n → k < length fields → is_number (get_or fields k d) ≡ true
  pub read : numbers ≡ map number_in (take n fields)

pub none_read : (fields : List (List ℕ)) (numbers : List ℕ) → numbers ≡ [] → AreRead fields 0 numbers
none_read fields numbers is = record {
  as_many = ap length is;
  good = λ k d below. absurd (omega arith);
  read = is;
}

pub one_read : (fields : List (List ℕ)) (n m number : ℕ) (field numbers longer : List ℕ) → AreRead fields n numbers
    → (n < length fields) × (field ≡ get_or fields n field) → (is_number field ≡ true) × (number ≡ number_in field)
    → longer ≡ numbers ++ number ∷ [] → m ≡ n + 1 → AreRead fields m longer
one_read fields n m number field numbers longer before turn found written next = record {
  as_many = ap length written ∙ omega (arith, length_push numbers number, before.as_many);
  good = λ k d below inside. elim (cases_lt k n) [
    | inl earlier ↦ before.good k d earlier inside
    | inr last ↦
        (let here : k ≡ n = omega arith in
        ap (λ (j : ℕ). is_number (get_or fields j d)) here
        ∙ ap is_number (get_or_default fields n d field turn.0 ∙ sym turn.1)
        ∙ found.0)
  ];
  read =
      written
      ∙ ap (λ (z : ℕ). numbers ++ z ∷ []) found.1
      ∙ ap (λ (z : List ℕ). z ++ number_in field ∷ []) before.read
      ∙ ap (λ (z : List ℕ). map number_in (take n fields) ++ number_in z ∷ []) turn.1
      ∙ sym (ap (map number_in) (take_more fields n field turn.0)
      ∙ map-append number_in (take n fields) (get_or fields n field ∷ []))
      ∙ ap (λ (j : ℕ). map number_in (take j fields)) (sym next);
}

-- the first failing place of a list
first_at : (test : List ℕ → Bool) (fields : List (List ℕ)) (i : ℕ) → i < length fields
    → position_or_len test fields ≡ i → position test fields ≡ Some i
first_at test fields i inside is = grind (arith, nat_tests)

first_none : (test : List ℕ → Bool) (fields : List (List ℕ)) → position_or_len test fields ≡ length fields
    → position test fields ≡ None
first_none test fields is = grind (arith, nat_tests)

pub all_read : (text numbers : List ℕ) (n : ℕ) → AreRead (fields_of text) n numbers → length (fields_of text) ≡ n
    → numbers_in text ≡ Ok numbers
all_read text numbers n read end =
    let fields = fields_of text in
    let first = first_none (λ field. not (is_number field)) fields
    (position_or_len_is (λ field. not (is_number field)) fields (length fields) [] (omega arith)
    (λ k below. ap not (read.good k [] (omega arith) below)) (λ inside. absurd (omega arith))) in
    ap (λ (o : Option ℕ). numbers_unless o text) first
    ∙ ap (λ (z : List ℕ). Ok z)
    (sym (read.read ∙ ap (map number_in) (take_all n fields (omega arith))))

pub bad_read : (text numbers field : List ℕ) (n place : ℕ) → AreRead (fields_of text) n numbers
    → place ≡ length numbers → (n < length (fields_of text)) × (field ≡ get_or (fields_of text) n field) → is_number field ≡ false
    → numbers_in text ≡ Err (BadNumber place)
bad_read text numbers field n place read is turn wrong =
    let fields = fields_of text in
    let first = first_at (λ field. not (is_number field)) fields n turn.0
    (position_or_len_is (λ field. not (is_number field)) fields n field (omega (arith, turn.0))
    (λ k below. ap not (read.good k field below (omega (arith, turn.0))))
    (λ inside. ap not (ap is_number (sym turn.1) ∙ wrong))) in
    ap (λ (o : Option ℕ). numbers_unless o text) first
    ∙ ap (λ (i : ℕ). Err (BadNumber i)) (sym (is ∙ read.as_many))
