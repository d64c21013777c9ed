-- How a legal walk passes branches, one after another.
use Rattle.std.specs.Prelude.{◌≡◌, ◌<◌, ℕ, ℤ, Bool, true, List, [], ◌∷◌, ◌++◌, length}
use Rattle.std.specs.Prelude.{slice_index_or}
use Rattle.std.specs.Prelude.{if◌then◌else◌}
use Rattle.ideal_tri.specs.Triangulations.{IsTriangulation}
use Rattle.ideal_tri.specs.Words.{inverse_word, last_of}
use Rattle.free_groupoid.specs.Walks.{DualWalk, IsWalkOn}
use Rattle.train_track.specs.Tracks.{IsLegal, is_switch}
use Rattle.train_track.specs.Branches.{TrainTrack, IsTrackOn}

-- the number of a branch among those listed, and the direction in which it is passed
pub record Pass : Type 0 where
  pub branch : ℕ
  pub forwards : Bool

-- the letters of a pass: those of the branch, or of its inverse
abbrev pub letters_of : List (List ℤ) → Pass → List ℤ
letters_of branches p =
    if p.forwards then slice_index_or branches p.branch [] else inverse_word
    (slice_index_or branches p.branch [])

-- from the letter x on the passes, each beginning with the last letter of the one before, are glued
-- to x ∷ w
abbrev pub AreGlued : List (List ℤ) → ℤ → List Pass → List ℤ → Type 0
AreGlued branches x [] w = w ≡ []
AreGlued branches x (p ∷ passes) w =
    (u : List ℤ) × (v : List ℤ) × (p.branch < length branches) × (letters_of branches p ≡ x ∷ u)
    × (w ≡ u ++ v)
    × AreGlued branches (last_of x u) passes v

-- the passes of the walk
abbrev pub ArePassesOf : List (List ℤ) → List Pass → List ℤ → Type 0
ArePassesOf branches passes [] = passes ≡ []
ArePassesOf branches passes (x ∷ w) = AreGlued branches x passes w

-- a legal walk of at least two letters, whose first and last letters are switches
pub record IsFromSwitchToSwitch (triples : List (List ℤ)) (left_out : List ℤ) (w : DualWalk)
    : Type 0 where
  pub walk : IsWalkOn triples w
  pub legal : IsLegal triples left_out w.letters
  pub first : ℤ
  pub second : ℤ
  pub rest : List ℤ
  pub letters : w.letters ≡ first ∷ (second ∷ rest)
  pub begins : is_switch triples left_out first ≡ true
  pub ends : is_switch triples left_out (last_of second rest) ≡ true

-- the track and the walk are of one triangulation, and the walk can be cut into branches
pub record CanBeCut (track : TrainTrack) (w : DualWalk) : Type 0 where
  pub triples : List (List ℤ)
  pub sound : IsTriangulation triples
  pub on : IsTrackOn triples track
  pub walk : IsFromSwitchToSwitch triples track.left_out w
