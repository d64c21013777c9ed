-- The curves that run round vertices cross an edge once near each of its ends: no more often than all curves do, since
-- the strands at the edge are those round its two ends.
use Rattle.std.proofs.Common.{◌≡◌, ◌+◌, ◌≤◌, ℕ, ℤ, List, refl, arith}
use Rattle.ideal_tri.specs.Labels.{inverse}
use Rattle.ideal_tri.specs.Triangulations.{IsLabel, next, previous}
use Rattle.ideal_tri.specs.Vectors.{IsMulticurve, weight, corner_count}
use Rattle.ideal_tri.specs.Vertices.{IsSameVertex}
use Rattle.ideal_tri.specs.PeripheralParts.{least_count}
use Rattle.ideal_tri.specs.SurfaceLaws.{TriangleLaws}
use Rattle.ideal_tri.specs.DrawingLaws.{DrawingLaws}
use Rattle.ideal_tri.specs.CornerLaws.{CornerLaws}

module _ (triples : List (List ℤ)) (w : List ℕ) (triangles : TriangleLaws triples) (drawings : DrawingLaws triples)
    (corners : CornerLaws triples) where
  least_here : (x : ℤ) → IsLabel triples x → least_count triples w x ≤ corner_count triples w x
  least_here x l = corners.least w x x l (record { steps = 0; reached = refl })

  pub ends_within : (x : ℤ) → IsMulticurve triples w → IsLabel triples x
      → least_count triples w x + least_count triples w (inverse x) ≤ weight w x
  ends_within x m l =
      let behind : IsLabel triples (previous triples x) = triangles.label (next triples x) (triangles.label x l) in
      let side : weight w x ≡ corner_count triples w x + corner_count triples w (previous triples x) = drawings.corners
      w x m l in
      let head : least_count triples w x ≤ corner_count triples w x = least_here x l in
      let tail : least_count triples w (previous triples x) ≤ corner_count triples w (previous triples x) =
      least_here (previous triples x) behind in
      let one : least_count triples w (previous triples x) ≡ least_count triples w (inverse x) =
      corners.same w (previous triples x) (inverse x) behind (corners.tail x l) in
      omega arith
