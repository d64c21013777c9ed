-- What holds of the path of the Dehn twist about a curve.
use Rattle.std.specs.Prelude.{◌≡◌, ℕ, ℤ, List, [], ◌∷◌}
use Rattle.ideal_tri.specs.Triangulations.{IsTriangulation, IsLabel}
use Rattle.ideal_tri.specs.Vectors.{IsMulticurve}
use Rattle.tri_atlas.specs.Maps.{after, path_map}
use Rattle.tri_atlas.specs.MovedVectors.{vector_along}
use Rattle.tri_atlas.specs.Moves.{Move, ArePath, back_along}
use Rattle.tri_atlas.specs.FlipPaths.{flips_along}
use Rattle.curve_shorten.specs.Twists.{carried_back, twisted, untwisted}
use Rattle.twist_compile.specs.TwistPaths.{IsCompiledFrom, IsTwistable, hand_moves, plus_moves}
use Rattle.surface_lib.specs.declared.twister.Hand.{Hand}
use Rattle.surface_lib.specs.declared.twister.Hand.TheVariants.{Plus, Minus}

-- the substitution of a hand
abbrev pub hand_letter : Hand → ℤ → ℤ → ℤ → List ℤ
hand_letter Plus p q x = twisted p q x
hand_letter Minus p q x = untwisted p q x

-- the moves of a twist along the descent that flips these edges, to where its annulus has the labels p
-- and q: they lead back to where they began; their map is the substitution at the end of the descent,
-- carried back along it; they fix the curve's vector; and the moves backwards undo them
pub record IsTwist (triples : List (List ℤ)) (w edges : List ℕ) (p q : ℤ) (hand : Hand)
    (moves : List Move) : Type 0 where
  pub path : ArePath triples moves triples
  pub map : (x : ℤ) → IsLabel triples x
      → path_map moves x ≡ carried_back (flips_along triples edges) (hand_letter hand p q) x
  pub fixed : vector_along moves w ≡ w
  pub undone : (x : ℤ) → IsLabel triples x
      → after (path_map (back_along moves)) (path_map moves) x ≡ x ∷ []

pub record TwistLaws : Type 0 where
  pub twist : (triples : List (List ℤ)) (w edges : List ℕ) (end : List (List ℤ)) (p q : ℤ)
      (hand : Hand) → IsTriangulation triples → IsMulticurve triples w → IsTwistable triples w
      → IsCompiledFrom triples w edges end p q
      → IsTwist triples w edges p q hand (hand_moves hand (plus_moves triples edges end p q))
