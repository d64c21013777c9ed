-- The iterates of the map of a path are the maps of the path taken several times.
use Rattle.std.proofs.Common.{◌+◌, arith, ℕ, zero, suc, ℤ, List, ◌≡◌, refl, sym, ◌∙◌, ap}
use Rattle.std.specs.List.{flat_map, repeat}
use Rattle.ideal_tri.specs.Words.{reduce}
use Rattle.tri_atlas.specs.Maps.{IsOdd, path_map}
use Rattle.tri_atlas.specs.MapLaws.{SubstitutionLaws, PathLaws}
use Rattle.tri_atlas.specs.Moves.{Move}
use Rattle.carry_map.specs.Iterates.{times}

pub times_path : PathLaws → (moves : List Move) (n : ℕ) (x : ℤ)
    → times n (path_map moves) x ≡ path_map (repeat n moves) x
times_path paths moves zero x = refl
times_path paths moves (suc n) x =
    ap (λ (w : List ℤ). reduce (flat_map (path_map moves) w)) (times_path paths moves n x)
    ∙ sym (paths.join (repeat n moves) moves x)
    ∙ ap (λ (all : List Move). path_map all x) (sym (paths.repeats.more n moves))
    ∙ ap (λ (k : ℕ). path_map (repeat k moves) x) (let next : n + 1 ≡ suc n = omega arith in next)

-- iterates of a substitution that respects inverses do so too
pub times_odd : SubstitutionLaws → (f : ℤ → List ℤ) (n : ℕ) → IsOdd f → IsOdd (times n f)
times_odd substitutions f zero odd = λ x. refl
times_odd substitutions f (suc n) odd =
    substitutions.odd (times n f) f (times_odd substitutions f n odd) odd
