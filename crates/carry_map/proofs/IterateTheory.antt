-- The laws of carried tracks, from what is shown of passes, of closed legal walks and of one carrying.
use Rattle.std.proofs.Common.{ℕ, ℤ, List}
use Rattle.ideal_tri.specs.Triangulations.{IsTriangulation}
use Rattle.tri_atlas.specs.Maps.{IsMap}
use Rattle.tri_atlas.specs.MapLaws.{PathLaws}
use Rattle.train_track.specs.Tracks.{IsSingleInTriangles}
use Rattle.train_track.specs.Branches.{IsBranchList}
use Rattle.transition_matrix.specs.Matrices.{Square}
use Rattle.carry_map.specs.CarriedMaps.{Carrying, IsCarried}
use Rattle.carry_map.specs.Iterates.{IsTransition}
use Rattle.carry_map.specs.IterateLaws.{LoopLaws, IterateLaws}
use Rattle.carry_map.proofs.PassFacts.{PassFacts}
use Rattle.carry_map.proofs.CarriedFacts.{CarriedFacts}
use Rattle.carry_map.proofs.Powers.{times_path}
use Rattle.carry_map.proofs.EveryIterate.{IterateBase, carried_laws}

-- what is shown of every track
abbrev pub OfTracks : (List (List ℤ) → List ℤ → List (List ℤ) → Type 0) → Type 0
OfTracks Holds = (triples : List (List ℤ)) (left_out : List ℤ) (branches : List (List ℤ))
    → IsTriangulation triples → IsSingleInTriangles triples left_out
    → IsBranchList triples left_out branches → Holds triples left_out branches

-- and of every carrying of it
abbrev pub OfCarryings : Type 0
OfCarryings = (triples : List (List ℤ)) (left_out : List ℤ) (branches : List (List ℤ))
    (f : ℤ → List ℤ) (triangles : ℕ → ℕ) (c : Carrying) (m : Square)
    → IsTriangulation triples → IsSingleInTriangles triples left_out
    → IsBranchList triples left_out branches → IsMap triples triples f triangles
    → IsCarried triples left_out branches f triangles c → IsTransition branches c.images m
    → CarriedFacts triples left_out branches f c m

pub iterate_laws : IterateBase → PathLaws → OfTracks PassFacts → OfTracks LoopLaws → OfCarryings → IterateLaws
iterate_laws base paths pass loop sigma = record {
  loops = loop;
  every = λ triples left_out branches f triangles c m sound single list map carried transition.
      carried_laws base triples left_out branches f c m map.odd transition.size
      (pass triples left_out branches sound single list) (loop triples left_out branches sound single list)
      (sigma triples left_out branches f triangles c m sound single list map carried transition);
  path = times_path paths;
}
