-- The iterates of a carried track: where closed legal walks go, and how often they pass branches.
use Rattle.std.specs.Prelude.{◌≡◌, ◌<◌, ℕ, zero, suc, ℤ, List, [], length, map, All}
use Rattle.std.specs.Prelude.{count_by, nat_eq, slice_index_or}
use Rattle.std.specs.List.{flat_map}
use Rattle.ideal_tri.specs.Words.{IsRotation, closed_up, but_last}
use Rattle.ideal_tri.specs.Triangulations.{IsLabel}
use Rattle.tri_atlas.specs.Maps.{identity, after}
use Rattle.train_track.specs.Tracks.{IsClosedLegal}
use Rattle.train_track.specs.Passes.{Pass, letters_of, ArePassesOf}
use Rattle.transition_matrix.specs.Matrices.{Square, entry}

-- a map n times, reduced after each time
abbrev pub times : ℕ → (ℤ → List ℤ) → ℤ → List ℤ
times zero f = identity
times (suc n) f = after f (times n f)

-- a closed legal walk of the track
pub record IsLegalLoop (triples : List (List ℤ)) (left_out : List ℤ) (w : List ℤ) : Type 0 where
  pub labels : All (IsLabel triples) w
  pub legal : IsClosedLegal triples left_out w

-- ---- passes of closed walks

-- the closed walk, which begins at a switch, passes these branches once round
pub record ArePassesRound (branches : List (List ℤ)) (passes : List Pass) (w : List ℤ)
    : Type 0 where
  pub some : 0 < length w
  pub passed : ArePassesOf branches passes (closed_up w)

-- how often the branch i is passed, in either direction
abbrev pub passed : List Pass → ℕ → ℕ
passed passes i = count_by (nat_eq i) (map (λ p. p.branch) passes)

-- the closed walk passes each branch i so often: y i times
pub record CountsPasses (branches : List (List ℤ)) (w : List ℤ) (y : ℕ → ℕ) : Type 0 where
  pub turned : List ℤ
  pub rotation : IsRotation w turned
  pub passes : List Pass
  pub round : ArePassesRound branches passes turned
  pub counts : (i : ℕ) → i < length branches → y i ≡ passed passes i

-- ---- images of closed walks

-- the train paths of the branches passed, in their order, each joined to the next at the label
-- that both have; inverse where the branch is passed backwards
abbrev pub joined_paths : List (List ℤ) → List Pass → List ℤ
joined_paths images passes = flat_map (λ p. but_last (letters_of images p)) passes

-- the closed walk v is the image of the closed walk w, which may be turned to begin at a switch
pub record IsCarriedTo (branches images : List (List ℤ)) (w v : List ℤ) : Type 0 where
  pub turned : List ℤ
  pub rotation : IsRotation w turned
  pub passes : List Pass
  pub round : ArePassesRound branches passes turned
  pub joined : v ≡ joined_paths images passes

-- the image of the image and so on, n times
abbrev pub IsCarriedOften : List (List ℤ) → List (List ℤ) → ℕ → List ℤ → List ℤ → Type 0
IsCarriedOften branches images zero w v = v ≡ w
IsCarriedOften branches images (suc n) w v =
    (u : List ℤ) × IsCarriedOften branches images n w u × IsCarriedTo branches images u v

-- the matrix has in row i and column j how often the train path of branch j passes branch i
pub record IsTransition (branches images : List (List ℤ)) (m : Square) : Type 0 where
  pub size : m.size ≡ length branches
  pub passes : (j : ℕ) → j < m.size
      → (passes : List Pass) × ArePassesOf branches passes (slice_index_or images j [])
      × ((i : ℕ) → i < m.size → entry m i j ≡ passed passes i)
