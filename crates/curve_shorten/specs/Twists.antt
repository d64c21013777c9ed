-- The Dehn twist about a curve, along its descent (Farb and Margalit, chapter 3).
use Rattle.std.specs.Prelude.{◌≡◌, ◌<◌, ℕ, ℤ, List, [], ◌∷◌, if◌then◌else◌}
use Rattle.std.specs.Ordering.{int_eq}
use Rattle.ideal_tri.specs.Labels.{inverse}
use Rattle.ideal_tri.specs.Triangulations.{IsLabel, next, triangle_of}
use Rattle.ideal_tri.specs.Vectors.{weight}
use Rattle.tri_atlas.specs.Maps.{after, path_map}
use Rattle.tri_atlas.specs.Moves.{Move, back_along}

-- the curve crosses the edges of p and q once each, and q is the side after p, in the triangle of p;
-- of the two triangles on both sides of p this is the one with the lesser number
pub record IsAnnulus (triples : List (List ℤ)) (w : List ℕ) (p q : ℤ) : Type 0 where
  pub label : IsLabel triples p
  pub once : weight w p ≡ 1
  pub other_once : weight w q ≡ 1
  pub after : next triples p ≡ q
  pub first : triangle_of triples p < triangle_of triples (inverse p)

-- the twist of hand plus along the annulus: p becomes p ~q p, and q becomes p; the letters of all
-- other edges stay
abbrev pub twisted : ℤ → ℤ → ℤ → List ℤ
twisted p q x =
    if int_eq x p then p ∷ (inverse q ∷ (p ∷ []))
    else (if int_eq x (inverse p) then inverse p ∷ (q ∷ (inverse p ∷ []))
    else (if int_eq x q then p ∷ [] else (if int_eq x (inverse q) then inverse p ∷ [] else x ∷ [])))

-- that of hand minus: p becomes q, and q becomes q ~p q
abbrev pub untwisted : ℤ → ℤ → ℤ → List ℤ
untwisted p q x =
    if int_eq x p then q ∷ []
    else (if int_eq x (inverse p) then inverse q ∷ []
    else (if int_eq x q then q ∷ (inverse p ∷ (q ∷ []))
    else (if int_eq x (inverse q) then inverse q ∷ (p ∷ (inverse q ∷ [])) else x ∷ [])))

-- a substitution at the end of flips, carried back along them: the map of the flips, the substitution,
-- and the map of the flips backwards, each image reduced
abbrev pub carried_back : List Move → (ℤ → List ℤ) → ℤ → List ℤ
carried_back flips substitution x =
    after (path_map (back_along flips)) (after substitution (path_map flips)) x
