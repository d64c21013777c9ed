-- Drawings on the torus with one puncture, worked out.
use Rattle.std.proofs.Common.{ℤ, pos, negsuc, List, [], ◌∷◌, ◌≡◌, refl}
use Rattle.ideal_tri.specs.Strands.{words_of}
use Rattle.ideal_tri.specs.Drawings.{draw}

torus : List (List ℤ)
torus = (pos 0 ∷ (pos 1 ∷ (pos 2 ∷ []))) ∷ ((negsuc 0 ∷ (negsuc 1 ∷ (negsuc 2 ∷ []))) ∷ [])

-- nothing is crossed: no word
nothing : words_of (draw torus (0 ∷ (0 ∷ (0 ∷ [])))) ≡ []
unfolding torus
nothing = refl

-- a curve twice: two copies of its word
twice : words_of (draw torus (2 ∷ (2 ∷ (4 ∷ []))))
    ≡ (pos 0 ∷ (negsuc 2 ∷ (pos 1 ∷ (negsuc 2 ∷ [])))) ∷ ((pos 0 ∷ (negsuc 2 ∷ (pos 1 ∷ (negsuc 2 ∷ [])))) ∷ [])
unfolding torus
twice = refl

-- the curve round the puncture
peripheral : words_of (draw torus (2 ∷ (2 ∷ (2 ∷ []))))
    ≡ (pos 0 ∷ (negsuc 1 ∷ (pos 2 ∷ (negsuc 0 ∷ (pos 1 ∷ (negsuc 2 ∷ [])))))) ∷ []
unfolding torus
peripheral = refl
