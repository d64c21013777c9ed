-- Every iterate of every closed legal walk of a carried track.
use Rattle.std.specs.Prelude.{◌≡◌, ◌<◌, ◌≤◌, ◌*◌, ◌^◌, ℕ, ℤ, List, length, slice_index}
use Rattle.std.specs.List.{flat_map, repeat}
use Rattle.ideal_tri.specs.Words.{IsRotation, cyclic_reduce}
use Rattle.ideal_tri.specs.Triangulations.{IsTriangulation, IsLabel}
use Rattle.tri_atlas.specs.Maps.{path_map, IsMap}
use Rattle.tri_atlas.specs.Moves.{Move}
use Rattle.train_track.specs.Tracks.{IsSingleInTriangles}
use Rattle.train_track.specs.Branches.{IsBranchList}
use Rattle.transition_matrix.specs.Matrices.{Square}
use Rattle.transition_matrix.specs.Bounds.{paired, iterated, IsBounds}
use Rattle.carry_map.specs.CarriedMaps.{Carrying, IsCarried}
use Rattle.carry_map.specs.Iterates.{times, IsLegalLoop, CountsPasses, IsCarriedOften, IsTransition}

-- of the closed legal walk w, which passes the branches as y counts, and its n-th image v under the
-- carrying: the n-th iterate of the map takes w there, the matrix counts the passes, and they grow
-- as the bounds say
pub record IsIterate (triples : List (List ℤ)) (left_out : List ℤ) (branches : List (List ℤ))
    (f : ℤ → List ℤ) (m : Square) (w : List ℤ) (y : ℕ → ℕ) (n : ℕ) (v : List ℤ) : Type 0 where
  pub legal : IsLegalLoop triples left_out v
  pub image : IsRotation (cyclic_reduce (flat_map (times n f) w)) v
  pub passes : CountsPasses branches v (iterated m n y)
  pub at_least : (u : List ℕ) (low high : ℕ × ℕ) → IsBounds m u low high
      → low.0 ^ n * paired m (slice_index u) y
      ≤ low.1 ^ n * paired m (slice_index u) (iterated m n y)
  pub at_most : (u : List ℕ) (low high : ℕ × ℕ) → IsBounds m u low high
      → high.1 ^ n * paired m (slice_index u) (iterated m n y)
      ≤ high.0 ^ n * paired m (slice_index u) y

-- closed legal walks of a track, one left-out corner in a triangle at most
pub record LoopLaws (triples : List (List ℤ)) (left_out : List ℤ) (branches : List (List ℤ))
    : Type 0 where
  -- there is one, as there is a label
  pub exists : (x : ℤ) → IsLabel triples x → (w : List ℤ) × IsLegalLoop triples left_out w
  -- how often each passes each branch is one number
  pub counted : (w : List ℤ) → IsLegalLoop triples left_out w
      → (y : ℕ → ℕ) × CountsPasses branches w y
  pub only : (w : List ℤ) (y y' : ℕ → ℕ) → IsLegalLoop triples left_out w
      → CountsPasses branches w y → CountsPasses branches w y'
      → (i : ℕ) → i < length branches → y i ≡ y' i

-- a carried track and its matrix
pub record CarriedLaws (triples : List (List ℤ)) (left_out : List ℤ) (branches : List (List ℤ))
    (f : ℤ → List ℤ) (c : Carrying) (m : Square) : Type 0 where
  -- each closed legal walk has an n-th image
  pub carried : (w : List ℤ) (n : ℕ) → IsLegalLoop triples left_out w
      → (v : List ℤ) × IsCarriedOften branches c.images n w v
  -- and whatever image is meant, it is that of the n-th iterate
  pub iterates : (w : List ℤ) (y : ℕ → ℕ) (n : ℕ) (v : List ℤ) → IsLegalLoop triples left_out w
      → CountsPasses branches w y → IsCarriedOften branches c.images n w v
      → IsIterate triples left_out branches f m w y n v

-- all of them
pub record IterateLaws : Type 0 where
  pub loops : (triples : List (List ℤ)) (left_out : List ℤ) (branches : List (List ℤ))
      → IsTriangulation triples → IsSingleInTriangles triples left_out
      → IsBranchList triples left_out branches → LoopLaws triples left_out branches
  pub every : (triples : List (List ℤ)) (left_out : List ℤ) (branches : List (List ℤ))
      (f : ℤ → List ℤ) (triangles : ℕ → ℕ) (c : Carrying) (m : Square)
      → IsTriangulation triples → IsSingleInTriangles triples left_out
      → IsBranchList triples left_out branches → IsMap triples triples f triangles
      → IsCarried triples left_out branches f triangles c → IsTransition branches c.images m
      → CarriedLaws triples left_out branches f c m
  -- the iterates of the map of a path are the maps of the path taken several times
  pub path : (moves : List Move) (n : ℕ) (x : ℤ)
      → times n (path_map moves) x ≡ path_map (repeat n moves) x
