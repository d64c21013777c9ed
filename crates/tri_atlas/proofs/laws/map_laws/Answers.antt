use Rattle.tri_atlas.proofs.LowerLaws.{LowerLaws}
use Rattle.tri_atlas.proofs.FlipPaths.{flip_path_laws}
use Rattle.tri_atlas.proofs.Substitutions.{substitution_laws}
use Rattle.tri_atlas.proofs.WalkMaps.{walk_map_laws}
use Rattle.tri_atlas.proofs.Moves.{move_laws}
use Rattle.tri_atlas.proofs.JoinedPaths.{path_laws}
use Rattle.tri_atlas.proofs.laws.map_laws.Goals as goal

pub returns : goal.returns
returns c =
    let laws : LowerLaws = record {
      labels = c.label_laws.ensures;
      words = c.word_laws.ensures;
      surfaces = c.surface_laws.ensures;
      flips = c.flip_laws.ensures;
      bijections = c.bijection_laws.ensures;
      relabellings = c.relabelling_laws.ensures;
    } in
    record {
      substitutions = substitution_laws laws;
      walks = walk_map_laws laws;
      moves = move_laws laws;
      paths = path_laws laws;
      flips = flip_path_laws laws;
    }
