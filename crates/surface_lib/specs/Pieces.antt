-- How a text is cut into pieces: at the dots that stand in no bracket.
use Rattle.std.specs.Prelude.{ℕ, ◌+◌, ◌-◌, Bool, ◌&&◌, ◌||◌, ◌==◌, List, [], ◌∷◌, take, drop}
use Rattle.std.specs.Prelude.{count_by, Option, Some, None, if◌then◌else◌}

-- brackets nest at most so deep
abbrev pub depth_limit : ℕ
depth_limit = 8

-- the codes of `(`, `)`, `.` and `^`
abbrev pub open_bracket : ℕ
open_bracket = 40

abbrev pub close_bracket : ℕ
close_bracket = 41

abbrev pub dot : ℕ
dot = 46

abbrev pub power_sign : ℕ
power_sign = 94

-- how many brackets are open after the byte c, where d are open before it
abbrev pub depth_after : ℕ → ℕ → ℕ
depth_after d c = if c == open_bracket then d + 1 else if c == close_bracket then d - 1 else d

-- the bracket c closes nothing, or opens one too many
abbrev pub is_bad : ℕ → ℕ → Bool
is_bad d c = (c == open_bracket && d == depth_limit) || (c == close_bracket && d == 0)

-- the place of the first bad bracket; else, where a bracket stays open, the end. The text begins at
-- place p, with d brackets open
abbrev pub bad_bracket : ℕ → ℕ → List ℕ → Option ℕ
bad_bracket d p [] = if d == 0 then None else Some p
bad_bracket d p (c ∷ s) = if is_bad d c then Some p else bad_bracket (depth_after d c) (p + 1) s

-- the number of dots, those in brackets too
abbrev pub dots : List ℕ → ℕ
dots s = count_by (λ c. c == dot) s

-- the byte in front of the first piece
abbrev pub in_front : ℕ → List (List ℕ) → List (List ℕ)
in_front c [] = (c ∷ []) ∷ []
in_front c (q ∷ qs) = (c ∷ q) ∷ qs

-- the parts between the dots that stand in no bracket, where d brackets are open
abbrev pub parts : ℕ → List ℕ → List (List ℕ)
parts d [] = [] ∷ []
parts d (c ∷ s) =
    let rest : List (List ℕ) = parts (depth_after d c) s in
    if c == dot && d == 0 then [] ∷ rest else in_front c rest

-- the pieces of a text; the empty text has none
abbrev pub pieces : List ℕ → List (List ℕ)
pieces [] = []
pieces (c ∷ s) = parts 0 (c ∷ s)

-- how many bytes stand before the first b outside the brackets of the text, where d are open
abbrev pub before : ℕ → ℕ → List ℕ → ℕ
before b d [] = 0
before b d (c ∷ s) = if c == b && d == 0 then 0 else before b (depth_after d c) s + 1

-- how many bytes stand before the first b
abbrev pub before_first : ℕ → List ℕ → ℕ
before_first b [] = 0
before_first b (c ∷ s) = if c == b then 0 else before_first b s + 1

-- ---- one piece

-- a piece is a group, whose inside is a text again, or a name; behind it may stand the text of a
-- power
pub data Piece : Type 0 where
  empty : Piece
  group : (inside power : List ℕ) → Piece
  name : (spelt power : List ℕ) → Piece

-- behind its first bracket a group ends at the bracket that closes it
abbrev pub group_behind : List ℕ → Piece
group_behind s = group (take (before close_bracket 0 s) s) (drop (before close_bracket 0 s + 1) s)

-- a name ends before the first `^`
abbrev pub name_in : List ℕ → Piece
name_in s = name (take (before_first power_sign s) s) (drop (before_first power_sign s) s)

abbrev pub piece : List ℕ → Piece
piece [] = empty
piece (c ∷ s) = if c == open_bracket then group_behind s else name_in (c ∷ s)
