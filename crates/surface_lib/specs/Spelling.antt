-- How names are spelt.
use Rattle.std.specs.Prelude.{ℕ, List, [], ◌∷◌, length, Bool, false, ◌&&◌, ◌||◌, ◌==◌, nat_le}
use Rattle.std.specs.List.{list_all}

abbrev pub is_lower : ℕ → Bool
is_lower c = nat_le 97 c && nat_le c 122

abbrev pub is_upper : ℕ → Bool
is_upper c = nat_le 65 c && nat_le c 90

abbrev pub is_digit : ℕ → Bool
is_digit c = nat_le 48 c && nat_le c 57

-- a lower-case letter, a digit or `_`
abbrev pub is_name_byte : ℕ → Bool
is_name_byte c = is_lower c || (is_digit c || c == 95)

-- a generator's name: a lower-case letter, and at most 15 more bytes
abbrev pub is_generator_name : List ℕ → Bool
is_generator_name [] = false
is_generator_name (c ∷ s) = is_lower c && (nat_le (length s) 15 && list_all is_name_byte s)

-- a letter, a digit, `_` or `-`
abbrev pub is_surface_byte : ℕ → Bool
is_surface_byte c = is_lower c || (is_upper c || (is_digit c || (c == 95 || c == 45)))

-- a surface's name: 1 to 64 bytes
abbrev pub is_surface_name : List ℕ → Bool
is_surface_name s = nat_le 1 (length s) && (nat_le (length s) 64 && list_all is_surface_byte s)
