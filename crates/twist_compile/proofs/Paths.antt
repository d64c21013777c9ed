-- The moves of a path are of its atlas, and what they do.
use Rattle.std.proofs.Common.{ℕ, zero, suc, List, [], ◌∷◌, ◌++◌, ◌≡◌, refl, ◌∙◌, ap, arith, map}
use Rattle.std.specs.List.{All}
use Rattle.tri_atlas.specs.Arena.{Arena, MoveHandle, IsArena, IsMoveIn, Grows, target_of}
use Rattle.tri_atlas.specs.AtlasLaws.{AtlasLaws}
use Rattle.tri_atlas.specs.Moves.{Move, back_along}
use Rattle.tri_atlas.specs.Paths.{MovePath, IsPathIn, Lead, moves_of, joined, inverse_path}
use Rattle.twist_compile.specs.inside.EndSteps.{joined_three}

pub all_in : (arena : Arena) (s : ℕ) (moves : List MoveHandle) (t : ℕ) → Lead arena s moves t
    → All (IsMoveIn arena) moves
all_in arena s [] t h k d b = absurd (omega arith)
all_in arena s (m ∷ moves) t h zero d b = h.0
all_in arena s (m ∷ moves) t h (suc k) d b = all_in arena (target_of arena m) moves t h.2 k d (omega arith)

pub moved_through : {A B C : Type 0} (f : A → B) (g : B → C) (xs : List A)
    → map g (map f xs) ≡ map (λ (x : A). g (f x)) xs
moved_through f g [] = refl
moved_through f g (x ∷ xs) = ap (λ zs. g (f x) ∷ zs) (moved_through f g xs)

-- down, the steps at the end, and up again
pub plus_path_moves : AtlasLaws → (old new : Arena) → Grows old new → IsArena new → (down steps up : MovePath)
    → IsPathIn old down → (ends : List Move) → moves_of new steps ≡ ends → up ≡ inverse_path down
    → moves_of new (joined_three down steps up) ≡ moves_of old down ++ ends ++ back_along (moves_of old down)
plus_path_moves laws old new grows sound down steps up there ends is back =
    let same : moves_of new down ≡ moves_of old down = laws.growth.moves old new down grows there in
    laws.ways.join new (joined down steps) up
    ∙ ap (λ (z : List Move). z ++ moves_of new up) (laws.ways.join new down steps)
    ∙ ap (λ (z : List Move). z ++ moves_of new steps ++ moves_of new up) same
    ∙ ap (λ (z : List Move). moves_of old down ++ z ++ moves_of new up) is
    ∙ ap (λ (z : List Move). moves_of old down ++ ends ++ z)
    (ap (moves_of new) back ∙ laws.ways.back new down sound (laws.growth.path_in old new down grows there)
    ∙ ap back_along same)
