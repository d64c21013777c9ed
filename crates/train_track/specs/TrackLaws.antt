-- What holds of tracks, their branches and the passes of legal walks.
use Rattle.std.specs.Prelude.{◌≡◌, ◌≢◌, ◌<◌, ◌⊎◌, ℕ, ℤ, true, List, ◌++◌, length}
use Rattle.std.specs.Prelude.{Contains}
use Rattle.ideal_tri.specs.Labels.{inverse}
use Rattle.ideal_tri.specs.Words.{inverse_word, last_of}
use Rattle.ideal_tri.specs.Triangulations.{IsTriangulation, IsLabel, triangle_of}
use Rattle.free_groupoid.specs.Walks.{DualWalk}
use Rattle.train_track.specs.Tracks.{IsSingleInTriangles, IsLegalPair, is_fork, is_switch}
use Rattle.train_track.specs.Branches.{IsBranch, IsBranchList, letter_at}
use Rattle.train_track.specs.Passes.{Pass, letters_of, AreGlued, ArePassesOf, IsFromSwitchToSwitch}

-- left-out corners, of which no two lie in one triangle
pub record TurnLaws (triples : List (List ℤ)) (left_out : List ℤ) : Type 0 where
  -- a legal pair doesn't turn back, and backwards it is legal too
  pub apart : (u v : ℤ) → IsLabel triples u → IsLegalPair triples left_out u v → v ≢ inverse u
  pub back : (u v : ℤ) → IsLegalPair triples left_out u v
      → IsLegalPair triples left_out (inverse v) (inverse u)
  -- each letter has a continuation, and only one where its edge is no switch
  pub continues : (u : ℤ) → IsLabel triples u
      → (v : ℤ) × IsLabel triples v × IsLegalPair triples left_out u v
  pub only : (u v v' : ℤ) → IsLabel triples u → IsLabel triples v → IsLabel triples v'
      → is_switch triples left_out u ≢ true → IsLegalPair triples left_out u v
      → IsLegalPair triples left_out u v' → v ≡ v'
  -- of two neighbours one is a switch
  pub switch : (u v : ℤ) → IsLabel triples u → IsLabel triples v → IsLegalPair triples left_out u v
      → (is_switch triples left_out u ≡ true) ⊎ (is_switch triples left_out v ≡ true)
  -- each triangle has a side with both corners kept, so each component has a switch
  pub in_triangle : (t : ℕ) → t < length triples
      → (x : ℤ) × IsLabel triples x × (triangle_of triples x ≡ t)
      × (is_fork triples left_out x ≡ true)

pub record BranchLaws (triples : List (List ℤ)) (left_out : List ℤ) : Type 0 where
  -- a branch has two or three letters, the first two settle it, and its inverse is a branch
  pub lengths : (b : List ℤ) → IsBranch triples left_out b → (length b ≡ 2) ⊎ (length b ≡ 3)
  pub settled : (b c : List ℤ) → IsBranch triples left_out b → IsBranch triples left_out c
      → letter_at b 0 ≡ letter_at c 0 → letter_at b 1 ≡ letter_at c 1 → b ≡ c
  pub back : (b : List ℤ) → IsBranch triples left_out b → IsBranch triples left_out (inverse_word b)
  -- one begins with each label of a switch, so in each component there is one
  pub begins : (x : ℤ) → IsLabel triples x → is_switch triples left_out x ≡ true
      → (b : List ℤ) × IsBranch triples left_out b × (letter_at b 0 ≡ x)

-- the branches that are listed
pub record ListLaws (triples : List (List ℤ)) (left_out : List ℤ) (branches : List (List ℤ))
    : Type 0 where
  -- of a branch and its inverse the list has just one
  pub one : (b : List ℤ) → IsBranch triples left_out b
      → Contains branches b ⊎ Contains branches (inverse_word b)
  pub not_both : (b : List ℤ) → IsBranch triples left_out b → Contains branches b
      → ¬ Contains branches (inverse_word b)
  -- a branch, in either direction, is that of one pass
  pub pass : (b : List ℤ) → IsBranch triples left_out b
      → (p : Pass) × (p.branch < length branches) × (letters_of branches p ≡ b)
  -- a legal walk from a switch to a switch is glued from passes
  pub passes : (w : DualWalk) → IsFromSwitchToSwitch triples left_out w
      → (passes : List Pass) × ArePassesOf branches passes w.letters
  -- and from one list of passes alone
  pub only : (x : ℤ) (first second : List Pass) (w : List ℤ) → AreGlued branches x first w
      → AreGlued branches x second w → first ≡ second
  -- passes of walks that are joined at a letter follow each other
  pub join : (x : ℤ) (first second : List Pass) (u v : List ℤ) → AreGlued branches x first u
      → AreGlued branches (last_of x u) second v → AreGlued branches x (first ++ second) (u ++ v)

-- all of them, for every triangulation
pub record TrackLaws : Type 0 where
  pub turns : (triples : List (List ℤ)) (left_out : List ℤ) → IsTriangulation triples
      → IsSingleInTriangles triples left_out
      → TurnLaws triples left_out
  pub branches : (triples : List (List ℤ)) (left_out : List ℤ) → IsTriangulation triples
      → IsSingleInTriangles triples left_out
      → BranchLaws triples left_out
  pub lists : (triples : List (List ℤ)) (left_out : List ℤ) (branches : List (List ℤ))
      → IsTriangulation triples
      → IsSingleInTriangles triples left_out → IsBranchList triples left_out branches
      → ListLaws triples left_out branches
