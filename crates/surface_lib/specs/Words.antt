-- Words in named generators: the tests of a text, and the value that it is written for.
--
-- The moves that a generator is made of are handles of an atlas, or what moves do: the definitions
-- ask only how a move is turned round.
use Rattle.std.specs.Prelude.{ℕ, zero, suc, ◌+◌, ◌*◌, List, [], ◌∷◌, ◌++◌, map}
use Rattle.std.specs.Prelude.{reverse, Option, Some, None, Result, Ok, Err, if◌then◌else◌}
use Rattle.std.specs.List.{find, repeat}
use Rattle.std.specs.Option.{option_map}
use Rattle.std.specs.Str.{bytes_eq}
use Rattle.surface_lib.specs.Pieces.{Piece, empty, group, name, piece, pieces}
use Rattle.surface_lib.specs.Powers.{power}
use Rattle.surface_lib.specs.Spelling.{is_upper}
use Rattle.surface_lib.specs.declared.power.Power.{Power}
use Rattle.surface_lib.specs.declared.error.WordError.{WordError}
use Rattle.surface_lib.specs.declared.error.WordError.TheVariants.{EmptyPart, UnknownName, BadPower}

-- ---- names

-- a generator: how its name is spelt, and the moves of its path
pub record Generator (M : Type 0) : Type 0 where
  pub spelt : List ℕ
  pub moves : List M

-- the moves of a path backwards, each turned round
abbrev pub backwards : {M : Type 0} → (M → M) → List M → List M
backwards turned moves = reverse (map turned moves)

-- the moves of the first generator with this name
abbrev pub moves_of : {M : Type 0} → List ℕ → List (Generator M) → Option (List M)
moves_of spelt generators = option_map (λ g. g.moves) (find (λ g. bytes_eq g.spelt spelt)
    generators)

-- the moves of a name; with the first letter in upper case it is the inverse
abbrev pub moves_named : {M : Type 0} → (M → M) → List (Generator M) → List ℕ → Option (List M)
moves_named turned generators [] = None
moves_named turned generators (c ∷ s) =
    if is_upper c
    then option_map (backwards turned) (moves_of ((c + 32) ∷ s) generators)
    else moves_of (c ∷ s) generators

-- which names there are, and the moves that each stands for
abbrev pub Names : Type 0 → Type 0
Names M = List ℕ → Option (List M)

-- ---- the tests

-- the next test, where the ones before it pass
abbrev pub and_then : Result ℕ WordError → (ℕ → Result ℕ WordError) → Result ℕ WordError
and_then (Ok next) test = test next
and_then (Err refusal) test = Err refusal

abbrev pub test_power : ℕ → ℕ → Option Power → Result ℕ WordError
test_power number next (Some k) = Ok next
test_power number next None = Err (BadPower number)

abbrev pub test_name : {M : Type 0} → ℕ → Option (List M) → Option Power → Result ℕ WordError
test_name number (Some moves) k = test_power number (number + 1) k
test_name number None k = Err (UnknownName number)

-- the number after a piece with this number, if it passes its tests; `inside` tests the inside of a
-- group
abbrev pub test_piece : {M : Type 0} → Names M → (ℕ → List ℕ → Result ℕ WordError) → ℕ → Piece
    → Result ℕ WordError
test_piece names inside number empty = Err (EmptyPart number)
test_piece names inside number (group s k) =
    and_then (inside number s) (λ next. test_power number next (power k))
test_piece names inside number (name s k) = test_name number (names s) (power k)

abbrev pub test_pieces : {M : Type 0} → Names M → (ℕ → List ℕ → Result ℕ WordError) → ℕ
    → List (List ℕ) → Result ℕ WordError
test_pieces names inside number [] = Ok number
test_pieces names inside number (q ∷ qs) =
    and_then (test_piece names inside number (piece q)) (λ next. test_pieces names inside next qs)

-- the number after a text whose brackets nest less than so many levels deep, if its pieces pass
-- their tests
abbrev pub test_text : {M : Type 0} → Names M → ℕ → ℕ → List ℕ → Result ℕ WordError
test_text names zero number s = Ok number
test_text names (suc levels) number s =
    test_pieces names (λ n u. test_text names levels n u) number (pieces s)

-- ---- the value

-- where a word is evaluated: the value of no pieces, of one after another, of a power, and of a
-- name with these moves
pub record Target (M V : Type 0) : Type 0 where
  pub none : V
  pub joined : V → V → V
  pub taken : Power → V → V
  pub named : List M → V

abbrev pub taken_if : {M V : Type 0} → Target M V → V → Option Power → V
taken_if target v None = target.none
taken_if target v (Some k) = target.taken k v

abbrev pub named_if : {M V : Type 0} → Target M V → Option (List M) → V
named_if target None = target.none
named_if target (Some moves) = target.named moves

abbrev pub value_of_piece : {M V : Type 0} → Target M V → Names M → (List ℕ → V) → Piece → V
value_of_piece target names inside empty = target.none
value_of_piece target names inside (group s k) = taken_if target (inside s) (power k)
value_of_piece target names inside (name s k) = taken_if target (named_if target (names s)) (power k)

-- the pieces from left to right, behind those with the value v
abbrev pub value_of_pieces : {M V : Type 0} → Target M V → Names M → (List ℕ → V) → V
    → List (List ℕ) → V
value_of_pieces target names inside v [] = v
value_of_pieces target names inside v (q ∷ qs) =
    value_of_pieces target names inside
    (target.joined v (value_of_piece target names inside (piece q))) qs

-- the value of a text that passes its tests
abbrev pub value_of_text : {M V : Type 0} → Target M V → Names M → ℕ → List ℕ → V
value_of_text target names zero s = target.none
value_of_text target names (suc levels) s =
    value_of_pieces target names (λ u. value_of_text target names levels u) target.none (pieces s)

-- ---- the targets

-- the moves of a word's path
abbrev pub moves_written : {M : Type 0} → (M → M) → Target M (List M)
moves_written turned = record {
  none = [];
  joined = λ u v. u ++ v;
  taken = λ k v. repeat k.times (if k.backwards then backwards turned v else v);
  named = λ moves. moves;
}

-- how many names a word has, with all powers written out
abbrev pub names_written : {M : Type 0} → Target M ℕ
names_written = record {
  none = 0;
  joined = λ m n. m + n;
  taken = λ k n. k.times * n;
  named = λ moves. 1;
}
