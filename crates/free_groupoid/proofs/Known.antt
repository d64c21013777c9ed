-- What is known from the layers below: of labels, words and maps, and of a triangulation.
use Rattle.std.proofs.Common.{ℕ, ℤ, List}
use Rattle.std.specs.List.{All}
use Rattle.ideal_tri.specs.LabelLaws.{LabelLaws}
use Rattle.ideal_tri.specs.WordLaws.{WordLaws}
use Rattle.ideal_tri.specs.Triangulations.{IsTriangulation, IsLabel, IsWalk}
use Rattle.ideal_tri.specs.SurfaceLaws.{SurfaceLaws, TriangleLaws, WalkLaws}
use Rattle.tri_atlas.specs.MapLaws.{MapLaws}
use Rattle.free_groupoid.specs.ForestLaws.{ForestLaws}

-- of labels, words and maps
pub record Known : Type 0 where
  pub labels : LabelLaws
  pub words : WordLaws
  pub maps : MapLaws

-- and of a triangulation
pub record Glued (triples : List (List ℤ)) : Type 0 where
  pub known : Known
  pub triangulation : IsTriangulation triples
  pub triangles : TriangleLaws triples
  pub walks : WalkLaws triples
  pub letters : (s t : ℕ) (w : List ℤ) → IsWalk triples s w t → All (IsLabel triples) w

-- and of its forest
pub record Laws (triples : List (List ℤ)) : Type 0 where
  pub known : Known
  pub triangulation : IsTriangulation triples
  pub triangles : TriangleLaws triples
  pub walks : WalkLaws triples
  pub letters : (s t : ℕ) (w : List ℤ) → IsWalk triples s w t → All (IsLabel triples) w
  pub forest : ForestLaws triples

pub glued : Known → SurfaceLaws → (triples : List (List ℤ)) → IsTriangulation triples → Glued triples
glued known surface triples tri = record {
  known = known;
  triangulation = tri;
  triangles = surface.triangles triples tri;
  walks = surface.walks triples tri;
  letters = surface.letters triples;
}

abbrev pub glue_of : (triples : List (List ℤ)) → Laws triples → Glued triples
glue_of triples l =
    record {
      known = l.known;
      triangulation = l.triangulation;
      triangles = l.triangles;
      walks = l.walks;
      letters = l.letters;
    }

pub with_forest : (triples : List (List ℤ)) → Glued triples → ForestLaws triples → Laws triples
with_forest triples glue forest = record {
  known = glue.known;
  triangulation = glue.triangulation;
  triangles = glue.triangles;
  walks = glue.walks;
  letters = glue.letters;
  forest = forest;
}
