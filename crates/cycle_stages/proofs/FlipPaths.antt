-- Paths of flips with one more flip at the end.
use Rattle.std.proofs.Common.{◌≡◌, ◌++◌, ℕ, ℤ, pos, List, [], ◌∷◌, refl, ap}
use Rattle.ideal_tri.specs.Flips.{flipped}
use Rattle.tri_atlas.specs.Arena.{flip_of}
use Rattle.tri_atlas.specs.FlipPaths.{IsFlippableEdge, CanBeFlipped, flips_along, flipped_along}

pub flipped_more : (triples : List (List ℤ)) (edges : List ℕ) (e : ℕ)
    → flipped_along triples (edges ++ e ∷ []) ≡ flipped (flipped_along triples edges) (pos e)
flipped_more triples [] e = refl
flipped_more triples (f ∷ edges) e = flipped_more (flipped triples (pos f)) edges e

pub flips_more : (triples : List (List ℤ)) (edges : List ℕ) (e : ℕ)
    → flips_along triples (edges ++ e ∷ [])
    ≡ flips_along triples edges ++ flip_of (flipped_along triples edges) (pos e) ∷ []
flips_more triples [] e = refl
flips_more triples (f ∷ edges) e =
    ap (λ moves. flip_of triples (pos f) ∷ moves) (flips_more (flipped triples (pos f)) edges e)

pub flippable_more : (triples : List (List ℤ)) (edges : List ℕ) (e : ℕ) → CanBeFlipped triples edges
    → IsFlippableEdge (flipped_along triples edges) e → CanBeFlipped triples (edges ++ e ∷ [])
flippable_more triples [] e h last = (last, tt)
flippable_more triples (f ∷ edges) e h last = (h.0, flippable_more (flipped triples (pos f)) edges e h.1 last)
