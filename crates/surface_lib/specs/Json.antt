-- Lists, numbers and triples in the JSON tree of a surface file.
use Rattle.std.specs.Prelude.{ℤ, pos, List, [], ◌∷◌, length, Bool, ◌&&◌, ◌==◌, neg_ℤ, Option, Some}
use Rattle.std.specs.Prelude.{None, option_and_then, if◌then◌else◌}
use Rattle.std.specs.Int.RustNames.{int_le}
use Rattle.std.specs.Option.{option_map}
use Rattle.serde_json.specs.Data.{Data, Items, no_items, item}
use Rattle.serde_json.specs.Find.{as_array, as_number, as_i64}

-- ---- lists

-- the entries of a list
abbrev pub entries_of : Items → List Data
entries_of no_items = []
entries_of (item d ds) = d ∷ entries_of ds

abbrev pub list_in : Data → Option (List Data)
list_in d = option_map entries_of (as_array d)

-- what f reads in each entry, if it reads something in all of them
abbrev pub all_read : {X : Type 0} → (Data → Option X) → List Data → Option (List X)
all_read f [] = Some []
all_read f (d ∷ ds) =
    option_and_then (λ x. option_map (λ xs. x ∷ xs) (all_read f ds)) (f d)

-- ---- numbers

abbrev pub is_small : ℤ → Bool
is_small z = int_le (neg_ℤ (pos 2147483648)) z && int_le z (pos 2147483647)

-- a whole number from -2^31 to 2^31 - 1
abbrev pub whole_in : Data → Option ℤ
whole_in d =
    option_and_then (λ z. if is_small z then Some z else None)
    (option_and_then as_i64 (as_number d))

abbrev pub numbers_in : Data → Option (List ℤ)
numbers_in d = option_and_then (all_read whole_in) (list_in d)

-- ---- triples

abbrev pub triple_in : Data → Option (List ℤ)
triple_in d = option_and_then (λ t. if length t == 3 then Some t else None) (numbers_in d)

abbrev pub triangles_in : Data → Option (List (List ℤ))
triangles_in d = option_and_then (all_read triple_in) (list_in d)
