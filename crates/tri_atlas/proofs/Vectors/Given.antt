-- What is used of the laws of words, triangulations, vectors and drawings.
use Rattle.std.proofs.Common.{ℕ, ℤ, List, ◌≡◌, length}
use Rattle.ideal_tri.specs.CornerLaws.{CornerLaws}
use Rattle.ideal_tri.specs.DrawingLaws.{DrawingLaws, SameCurvesLaws}
use Rattle.ideal_tri.specs.StrandLaws.{StrandLaws}
use Rattle.ideal_tri.specs.Triangulations.{IsTriangulation, edge_count}
use Rattle.ideal_tri.specs.Vectors.{IsMulticurve, corner_count}
use Rattle.tri_atlas.proofs.LowerLaws.{LowerLaws}
use Rattle.tri_atlas.proofs.Vectors.Turns.{HasCornerSums}

pub record Given : Type 0 where
  pub lower : LowerLaws
  pub same : SameCurvesLaws
  pub corners : (triples : List (List ℤ)) → IsTriangulation triples → CornerLaws triples
  pub drawings : (triples : List (List ℤ)) → IsTriangulation triples → DrawingLaws triples
  pub strands : (triples : List (List ℤ)) → IsTriangulation triples → StrandLaws triples

-- a vector is a multicurve's where its sides are sums of corners
pub sums_of_multicurve : Given → (triples : List (List ℤ)) (w : List ℕ) → IsTriangulation triples
    → IsMulticurve triples w
    → HasCornerSums triples w
sums_of_multicurve g triples w t m = record { sums = λ x l. (g.drawings triples t).corners w x m l }

pub multicurve_of_sums : Given → (triples : List (List ℤ)) (w : List ℕ) → IsTriangulation triples
    → length w ≡ edge_count triples → HasCornerSums triples w → IsMulticurve triples w
multicurve_of_sums g triples w t long h =
    ((g.corners triples t).from_counts w (corner_count triples w) long h.sums).0
