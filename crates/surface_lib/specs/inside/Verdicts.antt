-- The tests of a word, and of its sizes.
use Rattle.std.specs.Prelude.{◌≡◌, ℕ, nat_lt, List, Result, Ok, Err, if◌then◌else◌}
use Rattle.tri_atlas.specs.Arena.{MoveHandle}
use Rattle.surface_lib.specs.Refusals.{part_limit, flip_limit, move_limit}
use Rattle.surface_lib.specs.declared.error.WordError.{WordError}
use Rattle.surface_lib.specs.declared.error.WordError.TheVariants.{PartsOver, FlipsOver, MovesOver}

-- the tests pass, and these are the moves of the word; or they give its first refusal
abbrev pub IsVerdict : Result (Unit {0}) WordError → List MoveHandle
    → Result (List MoveHandle) WordError → Type 0
IsVerdict (Ok passed) moves told = told ≡ Ok moves
IsVerdict (Err refusal) moves told = told ≡ Err refusal

-- so many names, flips and moves are few enough
abbrev pub test_sizes : ℕ → ℕ → ℕ → Result (Unit {0}) WordError
test_sizes names flips moves =
    if nat_lt part_limit names then Err (PartsOver names)
    else if nat_lt flip_limit flips then Err (FlipsOver flips)
    else if nat_lt move_limit moves then Err (MovesOver moves)
    else Ok tt
