-- What the layers below prove of their definitions, in one record.
use Rattle.std.specs.Prelude.{ℤ, List}
use Rattle.ideal_tri.specs.BijectionLaws.{BijectionLaws}
use Rattle.ideal_tri.specs.DrawingLaws.{DrawingLaws}
use Rattle.ideal_tri.specs.FlipLaws.{FlipLaws}
use Rattle.ideal_tri.specs.HitLaws.{HitLaws}
use Rattle.ideal_tri.specs.LabelLaws.{LabelLaws}
use Rattle.ideal_tri.specs.RelabellingLaws.{RelabellingLaws}
use Rattle.ideal_tri.specs.SurfaceLaws.{SurfaceLaws}
use Rattle.ideal_tri.specs.Triangulations.{IsTriangulation}
use Rattle.ideal_tri.specs.TripleLaws.{TripleLaws}
use Rattle.ideal_tri.specs.WordLaws.{WordLaws}
use Rattle.tri_atlas.specs.MapLaws.{MapLaws}
use Rattle.tri_atlas.specs.VectorLaws.{VectorLaws}
use Rattle.curve_shorten.specs.FlippedCornerLaws.{FlippedCornerLaws}

pub record LowerLaws : Type 0 where
  pub labels : LabelLaws
  pub words : WordLaws
  pub surfaces : SurfaceLaws
  pub triples : TripleLaws
  pub flips : FlipLaws
  pub hits : HitLaws
  pub bijections : BijectionLaws
  pub relabellings : RelabellingLaws
  pub drawings : (triples : List (List ℤ)) → IsTriangulation triples → DrawingLaws triples
  pub maps : MapLaws
  pub vectors : VectorLaws
  pub corners : FlippedCornerLaws
