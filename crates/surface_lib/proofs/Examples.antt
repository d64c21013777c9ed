-- Words over two generators, a with the moves 0 and 1 and b with the move 2, of which move 0 is a flip: what each text
-- is read as, by computation. They show the cases where a rule could be read in two ways.
use Rattle.std.proofs.Common.{◌≡◌, ℕ, true, false, List, [], ◌∷◌, Result, Ok, Err, refl}
use Rattle.std.specs.Prelude.{codes, pos}
use Rattle.tri_atlas.specs.Moves.{flip}
use Rattle.tri_atlas.specs.Arena.{Arena, MoveHandle}
use Rattle.surface_lib.specs.Words.{Generator}
use Rattle.surface_lib.specs.Refusals.{handles_kind, reading}
use Rattle.surface_lib.specs.declared.error.WordError.{WordError}
use Rattle.surface_lib.specs.declared.error.WordError.TheVariants.{BadGroup, EmptyPart, UnknownName, BadPower}
use Rattle.surface_lib.specs.declared.error.WordError.TheVariants.{PartsOver}

abbrev arena : Arena
arena = record {
  triangulations = [];
  moves = record { source = 0; target = 0; move = flip (pos 0) (pos 1) (pos 2) (pos 1) (pos 2) } ∷ [];
  spare = 0;
}

abbrev m : ℕ → MoveHandle
m k = record { number = k; backwards = false }

-- the move backwards
abbrev w : ℕ → MoveHandle
w k = record { number = k; backwards = true }

abbrev generators : List (Generator MoveHandle)
generators = record { spelt = codes "a"; moves = m 0 ∷ m 1 ∷ [] } ∷ record { spelt = codes "b"; moves = m 2 ∷ [] } ∷ []

abbrev read : List ℕ → Result (List MoveHandle) WordError
read s = reading (handles_kind arena) generators s

-- ---- paths

leftmost_first : read (codes "a.b") ≡ Ok (m 0 ∷ m 1 ∷ m 2 ∷ [])
leftmost_first = refl

inverse_is_backwards : read (codes "A.b") ≡ Ok (w 1 ∷ w 0 ∷ m 2 ∷ [])
inverse_is_backwards = refl

power_repeats : read (codes "a^2") ≡ Ok (m 0 ∷ m 1 ∷ m 0 ∷ m 1 ∷ [])
power_repeats = refl

group_power : read (codes "(a.B)^-0002.b") ≡ Ok (m 2 ∷ w 1 ∷ w 0 ∷ m 2 ∷ w 1 ∷ w 0 ∷ m 2 ∷ [])
group_power = refl

nested : read (codes "((((((((b))))))))^-1") ≡ Ok (w 2 ∷ [])
nested = refl

empty_text : read [] ≡ Ok []
empty_text = refl

empty_group : read (codes "()^2.b") ≡ Ok (m 2 ∷ [])
empty_group = refl

-- ---- brackets

nine_open : read (codes "(((((((((") ≡ Err (BadGroup 8)
nine_open = refl

stays_open : read (codes "((a)(b)") ≡ Err (BadGroup 7)
stays_open = refl

closes_nothing : read (codes "q.a)") ≡ Err (BadGroup 3)
closes_nothing = refl

-- ---- pieces

empty_pieces : read (codes ".") ≡ Err (EmptyPart 0)
empty_pieces = refl

empty_pieces_inside : read (codes "(.)") ≡ Err (EmptyPart 0)
empty_pieces_inside = refl

behind_a_group : read (codes "().") ≡ Err (EmptyPart 0)
behind_a_group = refl

between : read (codes "a..b") ≡ Err (EmptyPart 1)
between = refl

two_groups : read (codes "(a)(q)") ≡ Err (BadPower 0)
two_groups = refl

name_behind_a_group : read (codes "(a)b") ≡ Err (BadPower 0)
name_behind_a_group = refl

bracket_in_a_name : read (codes "a(b.b)") ≡ Err (UnknownName 0)
bracket_in_a_name = refl

unknown_before_power : read (codes "q^(b.b)") ≡ Err (UnknownName 0)
unknown_before_power = refl

inside_before_power : read (codes "(q)^0") ≡ Err (UnknownName 0)
inside_before_power = refl

nothing_before_power : read (codes "^2") ≡ Err (UnknownName 0)
nothing_before_power = refl

bracket_in_a_power : read (codes "a.a^2(b.b)") ≡ Err (BadPower 1)
bracket_in_a_power = refl

number_of_a_group : read (codes "a.(b.b)^0") ≡ Err (BadPower 1)
number_of_a_group = refl

upper_case : read (codes "AB") ≡ Err (UnknownName 0)
upper_case = refl

-- ---- powers

power_twice : read (codes "a^2^3") ≡ Err (BadPower 0)
power_twice = refl

no_digits : read (codes "a^-") ≡ Err (BadPower 0)
no_digits = refl

zero_times : read (codes "b.a^-0") ≡ Err (BadPower 1)
zero_times = refl

five_digits : read (codes "a^00001") ≡ Err (BadPower 0)
five_digits = refl

too_often : read (codes "a^4097") ≡ Err (BadPower 0)
too_often = refl

plus_sign : read (codes "a^+1") ≡ Err (BadPower 0)
plus_sign = refl

-- ---- sizes

names_over : read (codes "(a.b)^4096") ≡ Err (PartsOver 8192)
names_over = refl
