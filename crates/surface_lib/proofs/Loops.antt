-- Paths from the base to the base, one after another.
use Rattle.std.proofs.Common.{◌≡◌, ◌-◌, ◌+◌, ◌<◌, ℕ, zero, suc, List, [], ◌∷◌, ◌++◌, length, true, refl, ap, ◌∙◌, sym}
use Rattle.std.proofs.Common.{subst, arith, append_assoc}
use Rattle.std.specs.Prelude.{◌==◌}
use Rattle.std.specs.List.{repeat}
use Rattle.tri_atlas.specs.Arena.{Arena, MoveHandle, IsTriIn}
use Rattle.tri_atlas.specs.Paths.{MovePath, IsPathIn, empty_path, joined}
use Rattle.surface_lib.specs.Pieces.{pieces}
use Rattle.surface_lib.specs.Words.{Names, Target, value_of_pieces, value_of_text}
use Rattle.surface_lib.specs.Surfaces.{IsLoop}
use Rattle.surface_lib.proofs.Levels.{value_of_level}

-- the path that stays at the base
pub loop_at_base : (arena : Arena) (b : ℕ) → b ≡ 0 → IsTriIn arena b → IsLoop arena (empty_path b)
loop_at_base arena b is here = record {
  within = record { start_in = here; end_in = here; moves_lead = refl };
  start = is;
  end = is;
}

pub loop_is_empty : (arena : Arena) (b : ℕ) (path : MovePath) → path ≡ empty_path b → b ≡ 0 → IsTriIn arena b
    → IsLoop arena path
loop_is_empty arena b path e is here = subst (IsLoop arena) (sym e) (loop_at_base arena b is here)

-- ---- the first pieces of a level

pub value_begins : {M V : Type 0} (target : Target M V) (names : Names M) (levels : ℕ) (s : List ℕ) (v : V) (qs
    : List (List ℕ))
    → v ≡ target.none → qs ≡ pieces s → (levels ≡ 0 → ⊥)
    → value_of_pieces target names (value_of_text target names (levels - 1)) v qs
    ≡ value_of_text target names levels s
value_begins {M} {V} target names levels s v qs none all some =
    ap (λ (z : V). value_of_pieces target names (value_of_text target names (levels - 1)) z qs) none
    ∙ ap (λ (z : List (List ℕ)). value_of_pieces target names (value_of_text target names (levels - 1))
    target.none z) all
    ∙ value_of_level target names levels s some

-- ---- repeated

repeat_none : (n : ℕ) → [] ≡ repeat {A = MoveHandle} n []
repeat_none zero = refl
repeat_none (suc k) = repeat_none k

no_moves : (xs : List MoveHandle) → true ≡ (length xs == 0) → xs ≡ []
no_moves [] e = refl
no_moves (x ∷ xs) e = absurd (grind (arith, e))

pub nothing_repeated : (n : ℕ) (xs moves : List MoveHandle) → true ≡ (length xs == 0) → xs ≡ moves → [] ≡ repeat n moves
nothing_repeated n xs moves e is =
    repeat_none n ∙ ap (λ (z : List MoveHandle). repeat n z) (sym (no_moves xs e) ∙ is)

pub once_more : (n i : ℕ) (so_far moves : List MoveHandle) → i < n
    → (so_far ++ moves) ++ repeat (n - (i + 1)) moves ≡ so_far ++ repeat (n - i) moves
once_more n i so_far moves more =
    let e : suc (n - (i + 1)) ≡ n - i = omega arith in
    append_assoc so_far moves (repeat (n - (i + 1)) moves) ∙ ap (λ (z : ℕ). so_far ++ repeat z moves) e

pub begins : (n : ℕ) (moves so_far : List MoveHandle) → so_far ≡ [] → so_far ++ repeat (n - 0) moves ≡ repeat n moves
begins n moves so_far e =
    let same : n - 0 ≡ n = omega arith in
    ap (λ (z : List MoveHandle). z ++ repeat (n - 0) moves) e ∙ ap (λ (z : ℕ). repeat z moves) same

-- one loop after another
pub loops_joined : (arena : Arena) (p q r : MovePath) → r ≡ joined p q → IsPathIn arena r → IsLoop arena p
    → IsLoop arena q → IsLoop arena r
loops_joined arena p q r e within a b = record {
  within = within;
  start = ap (λ (z : MovePath). z.start) e ∙ a.start;
  end = ap (λ (z : MovePath). z.end) e ∙ b.end;
}
