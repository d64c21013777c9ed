-- What contracts see of a piece that was cut from a text, and of what is left of the text.
use Rattle.std.specs.Prelude.{ℕ, ◌+◌, List, [], length, Option, Some, None}
use Rattle.surface_lib.specs.Pieces.{Piece, empty, group, name, parts}
use Rattle.surface_lib.specs.declared.piece.Piece.{Piece as Cut}
use Rattle.surface_lib.specs.declared.piece.Piece.TheVariants.{Empty, Group, Name}

abbrev pub seen : Cut → Piece
seen Empty = empty
seen (Group inside power) = group inside.now power.now
seen (Name spelt power) = name spelt.now power.now

-- the bytes inside a group
abbrev pub inside_length : Cut → ℕ
inside_length Empty = 0
inside_length (Group inside power) = length inside.now
inside_length (Name spelt power) = 0

-- the pieces of what is left, which begins behind a dot; nothing is left where no dot was found
abbrev pub parts_left : Option (List ℕ) → List (List ℕ)
parts_left None = []
parts_left (Some s) = parts 0 s

-- its bytes, and one more for the dot
abbrev pub bytes_left : Option (List ℕ) → ℕ
bytes_left None = 0
bytes_left (Some s) = length s + 1
