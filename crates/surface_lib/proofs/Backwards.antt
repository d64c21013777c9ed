-- A path backwards has as many moves and as many flips.
use Rattle.std.proofs.Common.{◌≡◌, ◌+◌, ℕ, Bool, true, false, List, [], ◌∷◌, ◌++◌, length, map, refl, ap, ◌∙◌, sym}
use Rattle.std.proofs.Common.{arith, add_comm}
use Rattle.std.proofs.lemmas.Grind.{common_steps}
use Rattle.std.proofs.lemmas.List.{length-reverse, length-map, reverse-append}
use Rattle.std.specs.Prelude.{not, cond, count_by, if◌then◌else◌}
use Rattle.std.specs.List.{fold}
use Rattle.tri_atlas.specs.Moves.{Move, flip, unflip, relabel, back_of}
use Rattle.tri_atlas.specs.Arena.{Arena, MoveHandle, step_of, back, entry_at}
use Rattle.tri_atlas.specs.Paths.{is_flip}
use Rattle.surface_lib.specs.Words.{backwards}
use Rattle.surface_lib.specs.Refusals.{handles_kind, flips_among}

-- ---- flips of what the moves do

pub counted-map : {M N : Type 0} (p : N → Bool) (q : M → Bool) (f : M → N) → ((m : M) → p (f m) ≡ q m) → (n : ℕ)
    (u : List M)
    → fold (λ a y. a + cond (p y) 1 0) n (map f u) ≡ fold (λ a x. a + cond (q x) 1 0) n u
counted-map p q f same n [] = refl
counted-map p q f same n (m ∷ u) =
    counted-map p q f same (n + cond (p (f m)) 1 0) u
    ∙ ap (λ (b : Bool). fold (λ a x. a + cond (q x) 1 0) (n + cond b 1 0) u) (same m)

pub flips-map : (arena : Arena) (u : List MoveHandle) → count_by is_flip (map (step_of arena) u)
    ≡ flips_among (handles_kind arena) u
flips-map arena u = counted-map is_flip (handles_kind arena).is_flip (step_of arena) (λ m. refl) 0 u

-- ---- flips of joined lists

pub flips-append : (arena : Arena) (u v : List MoveHandle) → flips_among (handles_kind arena) (u ++ v)
    ≡ flips_among (handles_kind arena) u + flips_among (handles_kind arena) v
flips-append arena [] v = omega arith
flips-append arena (m ∷ u) v = grind (arith, common_steps, flips-append arena u v)

-- ---- the same move, the other way

back_is_flip : (m : Move) → is_flip (back_of m) ≡ is_flip m
back_is_flip (flip e a b c d) = refl
back_is_flip (unflip e a b c d) = refl
back_is_flip (relabel images) = refl

is_flip_back : (arena : Arena) (m : MoveHandle) → is_flip (step_of arena (back m)) ≡ is_flip (step_of arena m)
is_flip_back arena m = by m.backwards (entry_at arena.moves m.number).move
  where
    by : (b : Bool) (z : Move) → is_flip (if not b then back_of z else z) ≡ is_flip (if b then back_of z else z)
    by true z = sym (back_is_flip z)
    by false z = back_is_flip z

-- ---- the path backwards

pub length-backwards : (moves : List MoveHandle) → length (backwards back moves) ≡ length moves
length-backwards moves = length-reverse (map back moves) ∙ length-map moves back

flips-one : (arena : Arena) (m : MoveHandle) → flips_among (handles_kind arena) (back m ∷ []) ≡ flips_among (handles_kind arena) (m ∷ [])
flips-one arena m = grind (arith, common_steps, is_flip_back arena m)

pub flips-backwards : (arena : Arena) (moves : List MoveHandle)
    → flips_among (handles_kind arena) (backwards back moves) ≡ flips_among (handles_kind arena) moves
flips-backwards arena [] = refl
flips-backwards arena (m ∷ u) =
    ap (flips_among (handles_kind arena)) (reverse-append (back m ∷ []) (map back u))
    ∙ flips-append arena (backwards back u) (back m ∷ [])
    ∙ ap (λ (z : ℕ). z + flips_among (handles_kind arena) (back m ∷ [])) (flips-backwards arena u)
    ∙ ap (λ (z : ℕ). flips_among (handles_kind arena) u + z) (flips-one arena m)
    ∙ add_comm (flips_among (handles_kind arena) u) (flips_among (handles_kind arena) (m ∷ []))
    ∙ sym (flips-append arena (m ∷ []) u)

-- ---- a path that may be turned

pub flips-turned : (arena : Arena) (b : Bool) (u : List MoveHandle)
    → flips_among (handles_kind arena) (if b then backwards back u else u) ≡ flips_among (handles_kind arena) u
flips-turned arena true u = flips-backwards arena u
flips-turned arena false u = refl

pub length-turned : (b : Bool) (u : List MoveHandle) → length (if b then backwards back u else u) ≡ length u
length-turned true u = length-backwards u
length-turned false u = refl
