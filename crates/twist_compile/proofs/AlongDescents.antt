-- What a descent keeps: its flips are a path, whose end has the vector and free corners.
use Rattle.std.proofs.Common.{ℕ, ℤ, pos, List, ◌∷◌, ◌≡◌, refl}
use Rattle.ideal_tri.specs.Labels.{inverse}
use Rattle.ideal_tri.specs.PeripheralParts.{HasFreeCorners}
use Rattle.ideal_tri.specs.Flips.{flipped}
use Rattle.ideal_tri.specs.Triangulations.{IsTriangulation, next, previous}
use Rattle.ideal_tri.specs.Vectors.{IsMulticurve}
use Rattle.tri_atlas.specs.Arena.{flip_of}
use Rattle.tri_atlas.specs.Moves.{ArePath}
use Rattle.tri_atlas.specs.MovedVectors.{vector_along}
use Rattle.curve_shorten.specs.Descents.{IsDescent, ended, lowered, kept, vector_flipped}
use Rattle.tri_atlas.specs.FlipPaths.{IsFlippableEdge, flips_along}
use Rattle.twist_compile.proofs.LowerLaws.{LowerLaws}

-- the flips of these edges lead from the one triangulation and vector to the other, each a multicurve with free
-- corners
pub record IsWayDown (triples : List (List ℤ)) (w edges : List ℕ) (end : List (List ℤ)) (v : List ℕ) : Type 0 where
  pub triangulation : IsTriangulation end
  pub path : ArePath triples (flips_along triples edges) end
  pub vector : v ≡ vector_along (flips_along triples edges) w
  pub multicurve : IsMulticurve end v
  pub free : HasFreeCorners end v

module _ (laws : LowerLaws) where
  flipped_is : (triples : List (List ℤ)) (e : ℕ) → IsTriangulation triples → IsFlippableEdge triples e
      → IsTriangulation (flipped triples (pos e))
  flipped_is triples e p (label, flippable) = (laws.flips.flips triples (pos e) p label flippable).triangulation

  -- one flip, and then the others
  way_from : (triples end : List (List ℤ)) (w v edges : List ℕ) (e : ℕ) → IsTriangulation triples
      → IsFlippableEdge triples e
      → IsWayDown (flipped triples (pos e)) (vector_flipped triples w e) edges end v
      → IsWayDown triples w (e ∷ edges) end v
  way_from triples end w v edges e p h way = record {
    triangulation = way.triangulation;
    path = (flipped triples (pos e), flipped_is triples e p h, laws.maps.flips.is_flip triples e h, way.path);
    vector = way.vector;
    multicurve = way.multicurve;
    free = way.free;
  }

  -- the vector after one flip is a multicurve with free corners
  multicurve_flipped : (triples : List (List ℤ)) (w : List ℕ) (e : ℕ) → IsTriangulation triples
      → IsFlippableEdge triples e → IsMulticurve triples w
      → IsMulticurve (flipped triples (pos e)) (vector_flipped triples w e)
  multicurve_flipped triples w e p h m =
      (laws.vectors.moves triples (flipped triples (pos e)) (flip_of triples (pos e)) w p (flipped_is triples e p h)
      (laws.maps.flips.is_flip triples e h) m).multicurve

  free_flipped : (triples : List (List ℤ)) (w : List ℕ) (e : ℕ) → IsTriangulation triples
      → IsFlippableEdge triples e → IsMulticurve triples w → HasFreeCorners triples w
      → HasFreeCorners (flipped triples (pos e)) (vector_flipped triples w e)
  free_flipped triples w e p h m free =
      laws.corners.free triples (flipped triples (pos e)) (pos e) (next triples (pos e)) (previous triples (pos e))
      (next triples (inverse (pos e))) (previous triples (inverse (pos e))) w p (laws.maps.flips.is_flip triples e h) m free

  pub way_down : (triples : List (List ℤ)) (w edges : List ℕ) (end : List (List ℤ)) (v : List ℕ)
      → IsDescent triples w edges end v → IsTriangulation triples → IsMulticurve triples w → HasFreeCorners triples w
      → IsWayDown triples w edges end v
  way_down triples w edges end v (ended t u over) p m free = record {
    triangulation = p;
    path = refl;
    vector = refl;
    multicurve = m;
    free = free;
  }
  way_down triples w edges end v (lowered t t' u u' es e more best rest) p m free =
      way_from t t' u u' es e p best.flippable
      (way_down (flipped t (pos e)) (vector_flipped t u e) es t' u' rest
      (flipped_is t e p best.flippable) (multicurve_flipped t u e p best.flippable m)
      (free_flipped t u e p best.flippable m free))
  way_down triples w edges end v (kept t t' u u' es e f more first best rest) p m free =
      way_from t t' u u' (f ∷ es) e p level
      (way_from (flipped t (pos e)) t' (vector_flipped t u e) u' es f between best.flippable
      (way_down (flipped (flipped t (pos e)) (pos f))
      (vector_flipped (flipped t (pos e)) (vector_flipped t u e) f) es t' u' rest
      (flipped_is (flipped t (pos e)) f between best.flippable)
      (multicurve_flipped (flipped t (pos e)) (vector_flipped t u e) f between best.flippable here)
      (free_flipped (flipped t (pos e)) (vector_flipped t u e) f between best.flippable here
      (free_flipped t u e p level m free))))
    where
      level : IsFlippableEdge t e
      level = first.level.flippable

      between : IsTriangulation (flipped t (pos e))
      between = flipped_is t e p first.level.flippable

      here : IsMulticurve (flipped t (pos e)) (vector_flipped t u e)
      here = multicurve_flipped t u e p first.level.flippable m
