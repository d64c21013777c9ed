-- Flips of flippable edges, one after another, are a path from triangulation to triangulation.
use Rattle.std.proofs.Common.{ℕ, ℤ, pos, List, [], ◌∷◌, refl}
use Rattle.ideal_tri.specs.Flips.{flipped}
use Rattle.ideal_tri.specs.Labels.{inverse}
use Rattle.ideal_tri.specs.Triangulations.{IsTriangulation, next, previous}
use Rattle.tri_atlas.specs.FlipPaths.{IsFlippableEdge, CanBeFlipped, flips_along, flipped_along}
use Rattle.tri_atlas.specs.MapLaws.{FlipPathLaws}
use Rattle.tri_atlas.specs.Moves.{IsFlip, ArePath}
use Rattle.tri_atlas.proofs.LowerLaws.{LowerLaws}

flip_is : (triples : List (List ℤ)) (e : ℕ) → IsFlippableEdge triples e
    → IsFlip triples (flipped triples (pos e)) (pos e) (next triples (pos e)) (previous triples (pos e))
    (next triples (inverse (pos e))) (previous triples (inverse (pos e)))
flip_is triples e can = record {
  label = can.0;
  flippable = can.1;
  side_a = refl;
  side_b = refl;
  side_c = refl;
  side_d = refl;
  result = refl;
}

module _ (laws : LowerLaws) where
  flips_path : (triples : List (List ℤ)) (edges : List ℕ) → IsTriangulation triples → CanBeFlipped triples edges
      → ArePath triples (flips_along triples edges) (flipped_along triples edges)
  flips_path triples [] sound can = refl
  flips_path triples (e ∷ edges) sound can =
      let next : IsTriangulation (flipped triples (pos e)) =
      (laws.flips.flips triples (pos e) sound can.0.0 can.0.1).triangulation in (
        flipped triples (pos e),
        next,
        flip_is triples e can.0,
        flips_path (flipped triples (pos e)) edges next can.1,
      )

  pub flip_path_laws : FlipPathLaws
  flip_path_laws = record { is_flip = flip_is; path = flips_path }
