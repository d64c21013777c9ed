-- The path of a word, or the first refusal of its text.
use Rattle.std.specs.Prelude.{ℕ, ◌+◌, nat_lt, Bool, List, length, count_by, Option, Some, None}
use Rattle.std.specs.Prelude.{Result, Ok, Err, if◌then◌else◌}
use Rattle.tri_atlas.specs.Moves.{Move, back_of}
use Rattle.tri_atlas.specs.Arena.{Arena, MoveHandle, step_of, back}
use Rattle.tri_atlas.specs.Paths.{is_flip}
use Rattle.surface_lib.specs.Pieces.{depth_limit, bad_bracket, dots}
use Rattle.surface_lib.specs.Words.{Generator, Names, moves_named, test_text, value_of_text}
use Rattle.surface_lib.specs.Words.{moves_written, names_written}
use Rattle.surface_lib.specs.declared.error.WordError.{WordError}
use Rattle.surface_lib.specs.declared.error.WordError.TheVariants.{BadGroup, WordTooLong, PartsOver}
use Rattle.surface_lib.specs.declared.error.WordError.TheVariants.{FlipsOver, MovesOver}

-- the most pieces of a text, and names of a word with all powers written out
abbrev pub part_limit : ℕ
part_limit = 4096

-- the most flips of a word's path
abbrev pub flip_limit : ℕ
flip_limit = 65536

-- the most moves of a word's path
abbrev pub move_limit : ℕ
move_limit = 131072

-- ---- kinds of moves

-- a kind of moves: how one is turned round, and which are flips, forwards or backwards
pub record Kind (M : Type 0) : Type 0 where
  pub turned : M → M
  pub is_flip : M → Bool

-- what moves do
abbrev pub moves_kind : Kind Move
moves_kind = record { turned = back_of; is_flip = is_flip }

-- the handles of an arena
abbrev pub handles_kind : Arena → Kind MoveHandle
handles_kind arena = record { turned = back; is_flip = λ m. is_flip (step_of arena m) }

-- how many of the moves are flips
abbrev pub flips_among : {M : Type 0} → Kind M → List M → ℕ
flips_among kind moves = count_by kind.is_flip moves

-- ---- the tests in their order

-- texts at most as deep as the limit have so many levels
abbrev pub levels : ℕ
levels = depth_limit + 1

abbrev pub sized : {M : Type 0} → ℕ → ℕ → List M → Result (List M) WordError
sized names flips moves =
    if nat_lt part_limit names then Err (PartsOver names)
    else if nat_lt flip_limit flips then Err (FlipsOver flips)
    else if nat_lt move_limit (length moves) then Err (MovesOver (length moves))
    else Ok moves

abbrev pub sized_if : {M : Type 0} → Kind M → Names M → List ℕ → Result ℕ WordError
    → Result (List M) WordError
sized_if kind names s (Err refusal) = Err refusal
sized_if {M} kind names s (Ok parts) =
    let moves : List M = value_of_text (moves_written kind.turned) names levels s in
    sized (value_of_text names_written names levels s) (flips_among kind moves) moves

abbrev pub tested : {M : Type 0} → Kind M → Names M → List ℕ → Option ℕ
    → Result (List M) WordError
tested kind names s (Some place) = Err (BadGroup place)
tested kind names s None =
    if nat_lt part_limit (dots s + 1) then Err (WordTooLong (dots s + 1))
    else sized_if kind names s (test_text names levels 0 s)

-- the moves of the word that the text spells, or its first refusal: brackets, dots, the pieces in
-- order of reading, then names, flips and moves
abbrev pub reading : {M : Type 0} → Kind M → List (Generator M) → List ℕ
    → Result (List M) WordError
reading kind generators s =
    tested kind (moves_named kind.turned generators) s (bad_bracket 0 0 s)
