-- What is known from the layers below: of labels and words, and of a triangulation.
use Rattle.std.proofs.Common.{ℤ, List}
use Rattle.ideal_tri.specs.LabelLaws.{LabelLaws}
use Rattle.ideal_tri.specs.WordLaws.{WordLaws}
use Rattle.ideal_tri.specs.Triangulations.{IsTriangulation}
use Rattle.ideal_tri.specs.SurfaceLaws.{SurfaceLaws, TriangleLaws, WalkLaws}

pub record Known (triples : List (List ℤ)) : Type 0 where
  pub labels : LabelLaws
  pub words : WordLaws
  pub triangulation : IsTriangulation triples
  pub triangles : TriangleLaws triples
  pub walks : WalkLaws triples

pub known : LabelLaws → WordLaws → SurfaceLaws → (triples : List (List ℤ)) → IsTriangulation triples → Known triples
known labels words surface triples tri = record {
  labels = labels;
  words = words;
  triangulation = tri;
  triangles = surface.triangles triples tri;
  walks = surface.walks triples tri;
}
