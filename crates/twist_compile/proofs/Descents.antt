-- How long a descent is, and which edges its flips change.
use Rattle.std.proofs.Common.{ℕ, ℤ, pos, List, [], ◌∷◌, ◌≡◌, ◌≤◌, ◌+◌, ◌*◌, refl, ap, arith, length, map}
use Rattle.std.specs.List.{sum}
use Rattle.curve_shorten.specs.Descents.{IsDescent, ended, lowered, kept}
use Rattle.tri_atlas.specs.FlipPaths.{flips_along}
use Rattle.ideal_tri.specs.Flips.{flipped}
use Rattle.tri_atlas.specs.MovedVectors.{flipped_edge}

-- each round lowers the total, by at most two flips
pub few_flips : (triples end : List (List ℤ)) (w v edges : List ℕ) → IsDescent triples w edges end v
    → length edges + 2 * sum v ≤ 2 * sum w
few_flips _ _ _ _ _ (ended triples w end) = omega arith
few_flips _ _ _ _ _ (lowered triples after w v edges e more best rest) =
    omega (arith, best.lowers, few_flips _ _ _ _ _ rest)
few_flips _ _ _ _ _ (kept triples after w v edges e f more level best rest) =
    omega (arith, level.level.keeps, best.lowers, few_flips _ _ _ _ _ rest)

pub edges_of_flips : (triples : List (List ℤ)) (edges : List ℕ) → map flipped_edge (flips_along triples edges) ≡ edges
edges_of_flips triples [] = refl
edges_of_flips triples (e ∷ edges) = ap (λ (es : List ℕ). e ∷ es) (edges_of_flips (flipped triples (pos e)) edges)

pub as_many_flips : (triples : List (List ℤ)) (edges : List ℕ) → length (flips_along triples edges) ≡ length edges
as_many_flips triples [] = refl
as_many_flips triples (e ∷ edges) = omega (arith, as_many_flips (flipped triples (pos e)) edges)
