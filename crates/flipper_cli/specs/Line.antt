-- The numbers of a vector, and the line of one.
use Rattle.std.specs.Prelude.{◌++◌, ℕ, List, [], ◌∷◌, map}
use Rattle.std.specs.Fmt.{decimal}
use Rattle.std.specs.List.{join_with_byte}

-- decimal numbers with one space between them
abbrev pub spaced_numbers : List ℕ → List ℕ
spaced_numbers v = join_with_byte 32 (map decimal v)

-- such numbers, and the end of the line
abbrev pub line_of : List ℕ → List ℕ
line_of v = spaced_numbers v ++ 10 ∷ []
