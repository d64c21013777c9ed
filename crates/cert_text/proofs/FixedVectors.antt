-- A certificate of a reducible word holds exactly where its numbers pass the test: a drawing has a
-- curve, and none round a vertex, where something is crossed and each vertex has a free corner; and
-- the map fixes the curves of a drawing where the moves give the vector back.
use Rattle.std.proofs.Common.{◌↔◌, ℕ, ℤ, List}
use Rattle.ideal_tri.specs.CornerLaws.{CornerLaws}
use Rattle.ideal_tri.specs.DrawingLaws.{DrawingLaws}
use Rattle.ideal_tri.specs.Drawings.{draw}
use Rattle.ideal_tri.specs.Strands.{IsDrawing}
use Rattle.ideal_tri.specs.Triangulations.{IsTriangulation}
use Rattle.tri_atlas.specs.Moves.{Move, ArePath}
use Rattle.tri_atlas.specs.VectorLaws.{VectorLaws}
use Rattle.cert_text.specs.CertificateLaws.{IsFixedVector}
use Rattle.cert_text.specs.Holds.{IsReducibleCertificate}

module _ (triples : List (List ℤ)) (moves : List Move) (coords : List ℕ) (drawings : DrawingLaws triples)
    (corners : CornerLaws triples) (vectors : VectorLaws) (sound : IsTriangulation triples)
    (loop : ArePath triples moves triples) where
  -- by the drawing that each multicurve has
  passes : IsReducibleCertificate triples moves coords → IsFixedVector triples moves coords
  passes h =
      let drawn : IsDrawing triples coords (draw triples coords) = drawings.exists coords h.multicurve in
      let crossed = (corners.criterion coords (draw triples coords) h.multicurve drawn).0
      (h.nonperipheral (draw triples coords) drawn) in
      record {
        multicurve = h.multicurve;
        small = h.small;
        some = crossed.0;
        free = crossed.1;
        within = h.within;
        fixed =
            (vectors.fixed triples moves coords (draw triples coords) sound loop h.multicurve drawn).0
            (h.fixed (draw triples coords) drawn);
      }

  holds : IsFixedVector triples moves coords → IsReducibleCertificate triples moves coords
  holds h = record {
    multicurve = h.multicurve;
    small = h.small;
    fixed = λ runs drawn. (vectors.fixed triples moves coords runs sound loop h.multicurve drawn).1 h.fixed;
    nonperipheral = λ runs drawn. (corners.criterion coords runs h.multicurve drawn).1 (h.some, h.free);
    within = h.within;
  }

  pub holds_where_passes : IsReducibleCertificate triples moves coords ↔ IsFixedVector triples moves coords
  holds_where_passes = (passes, holds)
