-- Which choices of where the switches go make a map carry a track.
use Rattle.std.specs.Prelude.{◌≡◌, ◌<◌, ◌↔◌, ℕ, ℤ, true, List, [], length, slice_index_or}
use Rattle.ideal_tri.specs.Words.{IsReduced}
use Rattle.ideal_tri.specs.Triangulations.{IsTriangulation, IsLabel, IsWalk, triangle_of}
use Rattle.tri_atlas.specs.Maps.{IsMap}
use Rattle.train_track.specs.Tracks.{IsSingleInTriangles, is_switch, switches_of}
use Rattle.train_track.specs.Branches.{IsBranch, IsBranchList, letter_at}
use Rattle.carry_map.specs.CarriedMaps.{Carrying, IsTrainPath, IsCarried}
use Rattle.carry_map.specs.AnchorAnswers.{train_path, Fits}

-- each switch goes to the label of a switch, by a reduced walk to it
pub record AreConnected (triples : List (List ℤ)) (left_out : List ℤ) (triangles : ℕ → ℕ)
    (c : Carrying) : Type 0 where
  pub one_label_each : length c.to ≡ length (switches_of triples left_out)
  pub one_walk_each : length c.connect ≡ length (switches_of triples left_out)
  pub labels : (i : ℕ) → i < length c.to → IsLabel triples (letter_at c.to i)
  pub switches : (i : ℕ) → i < length c.to → is_switch triples left_out (letter_at c.to i) ≡ true
  pub walks : (i : ℕ) → i < length c.to
      → IsWalk triples
      (triangles (triangle_of triples (letter_at (switches_of triples left_out) i)))
      (slice_index_or c.connect i []) (triangle_of triples (letter_at c.to i))
  pub reduced : (i : ℕ) → i < length c.to → IsReduced (slice_index_or c.connect i [])

-- each branch has the one walk that can be its train path, and it fits
pub record HavePaths (triples : List (List ℤ)) (left_out : List ℤ) (branches : List (List ℤ))
    (f : ℤ → List ℤ) (c : Carrying) : Type 0 where
  pub one_path_each : length c.images ≡ length branches
  pub paths : (j : ℕ) → j < length branches
      → slice_index_or c.images j []
      ≡ train_path (switches_of triples left_out) f c (slice_index_or branches j [])
  pub fit : (j : ℕ) → j < length branches
      → Fits triples left_out c (slice_index_or branches j []) (slice_index_or c.images j [])

-- a track and a map of its triangulation to itself, with switches connected
pub record AnchorLaws (triples : List (List ℤ)) (left_out : List ℤ) (f : ℤ → List ℤ)
    (triangles : ℕ → ℕ) (c : Carrying) : Type 0 where
  -- a branch has one train path at most
  pub path : (branch path : List ℤ) → IsBranch triples left_out branch
      → IsTrainPath triples left_out f c branch path
      ↔ ((path ≡ train_path (switches_of triples left_out) f c branch)
      × Fits triples left_out c branch path)
  -- and where each has one, the map carries the track
  pub carried : (branches : List (List ℤ)) → IsBranchList triples left_out branches
      → HavePaths triples left_out branches f c
      → IsCarried triples left_out branches f triangles c

-- of all of them
abbrev pub AllAnchorLaws : Type 0
AllAnchorLaws = (triples : List (List ℤ)) (left_out : List ℤ) (f : ℤ → List ℤ) (triangles : ℕ → ℕ)
    (c : Carrying) → IsTriangulation triples → IsSingleInTriangles triples left_out
    → IsMap triples triples f triangles → AreConnected triples left_out triangles c
    → AnchorLaws triples left_out f triangles c
