-- The numbers on the command line: fields of digits with commas between them.
use Rattle.std.specs.Prelude.{◌&&◌, ◌==◌, ◌^◌, ◌-◌, ℕ, Bool, List, length, map, min, not}
use Rattle.std.specs.Prelude.{Option, Some, None, Result, Ok, Err, nat_le}
use Rattle.std.specs.List.{position, slice_split}
use Rattle.std.specs.Str.{all_ascii_digits}
use Rattle.std.specs.Str.Parse.{digits_value}
use Rattle.flipper_cli.specs.Limits.{digit_limit}
use Rattle.flipper_cli.specs.declared.coordinates.NumbersError.{NumbersError}
use Rattle.flipper_cli.specs.declared.coordinates.NumbersError.TheVariants.{BadNumber}

-- the texts between the commas: one more than there are commas
abbrev pub fields_of : List ℕ → List (List ℕ)
fields_of text = slice_split (λ c. c == 44) text

-- 1 to 64 decimal digits
abbrev pub is_number : List ℕ → Bool
is_number field =
    nat_le 1 (length field) && (nat_le (length field) digit_limit && all_ascii_digits field)

-- the number of a field; the largest of 128 bits stands for itself and all larger ones
abbrev pub number_in : List ℕ → ℕ
number_in field = min (digits_value 10 field) (2 ^ 128 - 1)

-- the index of the first field that is no number
abbrev pub first_bad_field : List ℕ → Option ℕ
first_bad_field text = position (λ field. not (is_number field)) (fields_of text)

-- the numbers of all fields
abbrev pub numbers_of : List ℕ → List ℕ
numbers_of text = map number_in (fields_of text)

-- the numbers of a text, or the first field that is none
abbrev pub numbers_unless : Option ℕ → List ℕ → Result (List ℕ) NumbersError
numbers_unless None text = Ok (numbers_of text)
numbers_unless (Some i) text = Err (BadNumber i)

abbrev pub numbers_in : List ℕ → Result (List ℕ) NumbersError
numbers_in text = numbers_unless (first_bad_field text) text
