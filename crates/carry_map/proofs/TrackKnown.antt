-- What is known from the layers below: of labels and words, of a triangulation, and of a track on it.
use Rattle.std.proofs.Common.{ℤ, List}
use Rattle.ideal_tri.specs.LabelLaws.{LabelLaws}
use Rattle.ideal_tri.specs.WordLaws.{WordLaws}
use Rattle.ideal_tri.specs.Triangulations.{IsTriangulation}
use Rattle.ideal_tri.specs.SurfaceLaws.{SurfaceLaws, TriangleLaws}
use Rattle.train_track.specs.Tracks.{IsSingleInTriangles}
use Rattle.train_track.specs.Branches.{IsBranchList}
use Rattle.train_track.specs.TrackLaws.{TrackLaws, TurnLaws, BranchLaws, ListLaws}

pub record TrackKnown (triples : List (List ℤ)) (left_out : List ℤ) (branches : List (List ℤ)) : Type 0 where
  pub labels : LabelLaws
  pub words : WordLaws
  pub surfaces : SurfaceLaws
  pub triangles : TriangleLaws triples
  pub turns : TurnLaws triples left_out
  pub branch_laws : BranchLaws triples left_out
  pub list_laws : ListLaws triples left_out branches
  pub list : IsBranchList triples left_out branches

pub track_known : LabelLaws → SurfaceLaws → WordLaws → TrackLaws
    → (triples : List (List ℤ)) (left_out : List ℤ) (branches : List (List ℤ)) → IsTriangulation triples
    → IsSingleInTriangles triples left_out → IsBranchList triples left_out branches
    → TrackKnown triples left_out branches
track_known labels surface words track triples left_out branches tri single list = record {
  labels = labels;
  words = words;
  surfaces = surface;
  triangles = surface.triangles triples tri;
  turns = track.turns triples left_out tri single;
  branch_laws = track.branches triples left_out tri single;
  list_laws = track.lists triples left_out branches tri single list;
  list = list;
}
