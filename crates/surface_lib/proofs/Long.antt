-- A word of n names has at most n * 2^31 moves.
--
-- Each generator's path has fewer than 2^31 moves, and a path backwards has as many, so this holds of a name. It holds
-- of the empty word, of two words behind each other, since names and moves are added, and of a power, since both are
-- multiplied by the same number. So it holds of each piece and, by induction on the pieces and on the levels, of a
-- text. The flips are some of the moves.
use Rattle.std.proofs.Common.{◌≤◌, ◌+◌, ◌*◌, ℕ, zero, suc, Bool, true, false, cond, List, [], ◌∷◌, length, Option}
use Rattle.std.proofs.Common.{Some, None, arith, length-append, All}
use Rattle.std.proofs.Math.Nat.{mul-le-mul_left}
use Rattle.std.proofs.lemmas.List.Elements.{All-head, All-tail}
use Rattle.std.specs.Prelude.{if◌then◌else◌, String, string_bytes}
use Rattle.std.proofs.lemmas.List.Sums.{count_by-le-length}
use Rattle.std.specs.List.{find}
use Rattle.std.specs.Option.{option_map}
use Rattle.std.specs.Str.{bytes_eq}
use Rattle.std.specs.declared.alloc.Global.{Global}
use Rattle.tri_atlas.specs.Arena.{Arena, MoveHandle, back}
use Rattle.tri_atlas.specs.Paths.{MovePath}
use Rattle.surface_lib.specs.Pieces.{Piece, empty, group, name, piece, pieces}
use Rattle.surface_lib.specs.Powers.{power}
use Rattle.surface_lib.specs.Words.{Names, moves_of, moves_named, backwards, taken_if, named_if}
use Rattle.surface_lib.specs.Spelling.{is_upper}
use Rattle.surface_lib.specs.Words.{value_of_piece, value_of_pieces, value_of_text}
use Rattle.surface_lib.specs.Refusals.{handles_kind, flips_among}
use Rattle.surface_lib.specs.Surfaces.{generators_in, generator_of, IsGenerator}
use Rattle.surface_lib.specs.declared.power.Power.{Power}
use Rattle.surface_lib.proofs.Backwards.{length-backwards, length-turned}
use Rattle.surface_lib.proofs.Written.{Written, written, length-repeat}

-- ---- names

abbrev IsShort : Option (List MoveHandle) → Type 0
IsShort None = Unit {0}
IsShort (Some moves) = length moves ≤ 2147483648

short_found : (t : List ℕ) (arena : Arena) (es : List (String Global × MovePath)) → All (IsGenerator arena) es
    → IsShort (moves_of t (generators_in es))
short_found t arena [] all = tt
short_found t arena (e ∷ es) all =
    by (bytes_eq (string_bytes e.0) t) (short_found t arena es (All-tail (IsGenerator arena) e es all))
  where
    by : (b : Bool) → IsShort (moves_of t (generators_in es))
        → IsShort (option_map (λ g. g.moves) (cond b (Some (generator_of e)) (find (λ g. bytes_eq g.spelt t)
        (generators_in es))))
    by true later = let short = (All-head (IsGenerator arena) e es all).short in omega (arith, short)
    by false later = later

short_backwards : (m : Option (List MoveHandle)) → IsShort m → IsShort (option_map (backwards back) m)
short_backwards None h = tt
short_backwards (Some moves) h = omega (arith, h, length-backwards moves)

short_named : (arena : Arena) (es : List (String Global × MovePath)) → All (IsGenerator arena) es
    → (s : List ℕ) → IsShort (moves_named back (generators_in es) s)
short_named arena es all [] = tt
short_named arena es all (c ∷ s) = by (is_upper c)
  where
    by : (b : Bool) → IsShort (if b then option_map (backwards back) (moves_of ((c + 32) ∷ s) (generators_in es)) else
        moves_of (c ∷ s) (generators_in es))
    by true = short_backwards (moves_of ((c + 32) ∷ s) (generators_in es)) (short_found ((c + 32) ∷ s) arena es all)
    by false = short_found (c ∷ s) arena es all

-- ---- words

IsFew : Written → Type 0
IsFew w = length w.moves ≤ w.names * 2147483648

few_none : IsFew written.none
unfolding IsFew
few_none = omega arith

few_joined : (a b : Written) → IsFew a → IsFew b → IsFew (written.joined a b)
unfolding IsFew
few_joined a b p q = omega (arith, p, q, length-append a.moves b.moves)

few_taken : (k : Power) (a : Written) → IsFew a → IsFew (written.taken k a)
unfolding IsFew
few_taken k a p =
    let n = length-repeat k.times (if k.backwards then backwards back a.moves else a.moves) in
    let m = length-turned k.backwards a.moves in
    let all : k.times * length a.moves ≤ k.times * (a.names * 2147483648) = mul-le-mul_left k.times p in
    grind (arith, n, m, all)

few_taken_if : (a : Written) (k : Option Power) → IsFew a → IsFew (taken_if written a k)
few_taken_if a None p = few_none
few_taken_if a (Some k) p = few_taken k a p

few_named : (m : Option (List MoveHandle)) → IsShort m → IsFew (named_if written m)
unfolding IsFew
few_named None h = omega arith
few_named (Some moves) h = omega (arith, h)

few_piece : (names : Names MoveHandle) → ((s : List ℕ) → IsShort (names s)) → (f : List ℕ → Written)
    → ((s : List ℕ) → IsFew (f s)) → (q : Piece) → IsFew (value_of_piece written names f q)
few_piece names short f inside empty = few_none
few_piece names short f inside (group s k) = few_taken_if (f s) (power k) (inside s)
few_piece names short f inside (name s k) =
    few_taken_if (named_if written (names s)) (power k) (few_named (names s) (short
    s))

few_pieces : (names : Names MoveHandle) → ((s : List ℕ) → IsShort (names s)) → (f : List ℕ
    → Written)
    → ((s : List ℕ) → IsFew (f s)) → (qs : List (List ℕ)) (v : Written) → IsFew v
    → IsFew (value_of_pieces written names f v qs)
few_pieces names short f inside [] v p = p
few_pieces names short f inside (q ∷ qs) v p =
    few_pieces names short f inside qs (written.joined v (value_of_piece written names f (piece q)))
    (few_joined v (value_of_piece written names f (piece q)) p (few_piece names short f inside (piece q)))

few_text : (names : Names MoveHandle) → ((s : List ℕ) → IsShort (names s)) → (k : ℕ) (s : List ℕ)
    → IsFew (value_of_text written names k s)
few_text names short zero s = few_none
few_text names short (suc k) s =
    few_pieces names short (value_of_text written names k) (few_text names short k) (pieces s)
    written.none few_none

pub moves_bound : (arena : Arena) (es : List (String Global × MovePath)) → All (IsGenerator arena) es
    → (k : ℕ) (s : List ℕ)
    → let w : Written = value_of_text written (moves_named back (generators_in es)) k s in length w.moves ≤ w.names * 2147483648
unfolding IsFew
moves_bound arena es all k s = few_text (moves_named back (generators_in es)) (short_named arena es all) k s

pub flips_bound : (arena : Arena) (moves : List MoveHandle) → flips_among (handles_kind arena) moves ≤ length moves
flips_bound arena moves = count_by-le-length (handles_kind arena).is_flip moves
