-- The branches of a track, and the order in which they are listed.
use Rattle.std.specs.Prelude.{◌≡◌, ◌&&◌, ◌||◌, ℕ, ℤ, pos, Bool, true, false, List, [], ◌∷◌}
use Rattle.std.specs.Prelude.{◌++◌, map}
use Rattle.std.specs.Prelude.{nat_lt, slice_index_or, All, AllPairs, Contains}
use Rattle.std.specs.Ordering.{int_eq}
use Rattle.ideal_tri.specs.Labels.{inverse}
use Rattle.ideal_tri.specs.Words.{inverse_word}
use Rattle.ideal_tri.specs.Triangulations.{IsWalk, triangle_of}
use Rattle.ideal_tri.specs.Vertices.{rank}
use Rattle.tri_atlas.specs.Arena.{Arena, triangulation, IsTriIn}
use Rattle.free_groupoid.specs.Walks.{DualWalk, IsWalkOn}
use Rattle.train_track.specs.Tracks.{ArePlaced, IsFilling, IsLegal, is_switch, switches_of}

-- a legal walk of at least two letters whose first and last letters are switches, and whose others
-- aren't
pub record IsBranch (triples : List (List ℤ)) (left_out : List ℤ) (b : List ℤ) : Type 0 where
  pub first : ℤ
  pub between : List ℤ
  pub last : ℤ
  pub letters : b ≡ first ∷ (between ++ (last ∷ []))
  pub walk : IsWalk triples (triangle_of triples first) b (triangle_of triples (inverse last))
  pub legal : IsLegal triples left_out b
  pub begins : is_switch triples left_out first ≡ true
  pub ends : is_switch triples left_out last ≡ true
  pub others : All (λ x. is_switch triples left_out x ≡ false) between

-- ---- the order: by the first letter, then by the second, each in the order of labels

abbrev pub letter_at : List ℤ → ℕ → ℤ
letter_at w i = slice_index_or w i (pos 0)

-- the letters x, y are before u, v
unfoldable pub are_before : ℤ → ℤ → ℤ → ℤ → Bool
are_before x y u v = nat_lt (rank x) (rank u) || (int_eq x u && nat_lt (rank y) (rank v))

-- b is found before c
abbrev pub is_before : List ℤ → List ℤ → Bool
is_before b c = are_before (letter_at b 0) (letter_at b 1) (letter_at c 0) (letter_at c 1)

-- the list of branches: of a branch and its inverse it has the one that is found first
pub record IsBranchList (triples : List (List ℤ)) (left_out : List ℤ) (branches : List (List ℤ))
    : Type 0 where
  pub branch : All (IsBranch triples left_out) branches
  pub first : All (λ b. is_before (inverse_word b) b ≡ false) branches
  pub all : (b : List ℤ) → IsBranch triples left_out b → is_before (inverse_word b) b ≡ false
      → Contains branches b
  pub order : AllPairs (λ b c. is_before b c ≡ true) branches

-- ---- tracks as contracts see them

pub record TrainTrack : Type 0 where
  pub tri : ℕ
  pub left_out : List ℤ
  pub switches : List ℤ
  pub branches : List DualWalk

-- the letters of the branches
abbrev pub words_of : List DualWalk → List (List ℤ)
words_of branches = map (λ w. w.letters) branches

-- the track of its left-out corners on this triangulation, which it fills
pub record IsTrackOn (triples : List (List ℤ)) (track : TrainTrack) : Type 0 where
  pub labels : ArePlaced triples track.left_out
  pub filling : IsFilling triples track.left_out
  pub switches : track.switches ≡ switches_of triples track.left_out
  pub walks : All (IsWalkOn triples) track.branches
  pub branches : IsBranchList triples track.left_out (words_of track.branches)

-- on a triangulation of the arena
pub record IsTrackIn (arena : Arena) (track : TrainTrack) : Type 0 where
  pub tri : IsTriIn arena track.tri
  pub on : IsTrackOn (triangulation arena track.tri) track
