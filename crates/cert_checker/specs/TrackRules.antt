-- The rules for certificates of pseudo-Anosov words, 12 to 18. The word's path runs from the
-- triangulation to itself, and these are its moves.
use Rattle.std.specs.Prelude.{◌≡◌, ◌≢◌, ◌<◌, ◌≤◌, ◌*◌, ℕ, ℤ, pos, true, List, [], length}
use Rattle.std.specs.Prelude.{slice_index, slice_index_or, take}
use Rattle.ideal_tri.specs.Triangulations.{IsLabel, IsWalk, triangle_of}
use Rattle.ideal_tri.specs.Vertices.{vertex_of}
use Rattle.ideal_tri.specs.Words.{IsReduced}
use Rattle.tri_atlas.specs.FlipPaths.{IsFlippableEdge, flipped_along}
use Rattle.tri_atlas.specs.Maps.{path_map}
use Rattle.tri_atlas.specs.Moves.{Move}
use Rattle.train_track.specs.Branches.{letter_at}
use Rattle.train_track.specs.Passes.{Pass, ArePassesOf}
use Rattle.train_track.specs.Tracks.{IsPlaced, is_left_out, is_switch}
use Rattle.train_track.specs.Tracks.{switches_of}
use Rattle.transition_matrix.specs.Bounds.{times}
use Rattle.transition_matrix.specs.Matrices.{Square, IsPositivePower}
use Rattle.carry_map.specs.CarriedMaps.{IsTrainPath}
use Rattle.carry_map.specs.Iterates.{passed}
use Rattle.cert_text.specs.Certificates.{Anchored, CarriedTrack}
use Rattle.cert_text.specs.Limits.{power_limit, exponent_limit}
use Rattle.cert_text.specs.Limits.{number_limit}
use Rattle.cert_text.specs.PseudoAnosov.{IsCount, carrying_of}

-- ---- the tests

-- 12: the power is from 1 to 64; there are at most 64 flips; and each is of an edge that can be
-- flipped behind those before
abbrev pub IsPower : ℕ → Type 0
IsPower power = (0 < power) × (power ≤ power_limit)

abbrev pub CanBeFlippedAt : List (List ℤ) → List ℕ → ℕ → Type 0
CanBeFlippedAt triples edges i =
    IsFlippableEdge (flipped_along triples (take i edges)) (slice_index_or edges i 0)

-- 13: each entry is a label, above the one before in the order of labels, and the only one so far in
-- its triangle; and each vertex has one
abbrev pub IsCornerAt : List (List ℤ) → List ℤ → ℕ → Type 0
IsCornerAt triples corners i =
    IsPlaced triples corners i
    × ((j : ℕ) → j < i
    → triangle_of triples (letter_at corners j) ≢ triangle_of triples (letter_at corners i))

abbrev pub IsOpenAt : List (List ℤ) → List ℤ → ℕ → Type 0
IsOpenAt triples corners v =
    (x : ℤ) × IsLabel triples x × (vertex_of triples x ≡ v) × (is_left_out corners x ≡ true)

-- 15: the switch goes to the label of a switch, by a reduced walk from where its triangle goes
pub record IsAnchorOf (triples : List (List ℤ)) (left_out : List ℤ) (triangles : ℕ → ℕ) (s : ℤ)
    (a : Anchored) : Type 0 where
  pub named : a.switch ≡ s
  pub label : IsLabel triples a.to
  pub to_switch : is_switch triples left_out a.to ≡ true
  pub walk : IsWalk triples (triangles (triangle_of triples s)) a.connect (triangle_of triples a.to)
  pub reduced : IsReduced a.connect

abbrev pub anchor_at : List Anchored → ℕ → Anchored
anchor_at anchors i =
    slice_index_or anchors i (record { switch = pos 0; to = pos 0; connect = [] })

abbrev pub IsAnchorAt : List (List ℤ) → List ℤ → (ℕ → ℕ) → List Anchored → ℕ → Type 0
IsAnchorAt triples left_out triangles anchors i =
    IsAnchorOf triples left_out triangles (letter_at (switches_of triples left_out) i)
    (anchor_at anchors i)

-- 16: the image of a branch is its train path
abbrev pub IsImageAt : List (List ℤ) → List Move → CarriedTrack → List (List ℤ) → ℕ → Type 0
IsImageAt triples path c branches j =
    IsTrainPath triples c.left_out (path_map path) (carrying_of c) (slice_index_or branches j [])
    (slice_index_or c.images j [])

-- 17: the row counts, for each branch, how often its train path passes this branch
pub record IsRowAt (branches : List (List ℤ)) (c : CarriedTrack) (i : ℕ) : Type 0 where
  pub branch : i < length branches
  pub row : i < length c.matrix
  pub one_entry_each : length (slice_index_or c.matrix i []) ≡ length branches
  pub counts : (j : ℕ) → j < length branches
      → (passes : List Pass) × ArePassesOf branches passes (slice_index_or c.images j [])
      × (slice_index (slice_index_or c.matrix i []) j ≡ passed passes i)

abbrev pub IsExponent : Square → ℕ → Type 0
IsExponent m e = (0 < e) × (e ≤ exponent_limit) × IsPositivePower m e

-- 18: the four numbers are in their range, with low above 1; and each entry of the row and of the
-- next row is, and grows between the bounds
pub record ArePairs (c : CarriedTrack) : Type 0 where
  pub low : IsCount c.low.0 × IsCount c.low.1
  pub high : IsCount c.high.0 × IsCount c.high.1
  pub above_one : c.low.1 < c.low.0

pub record IsBoundedAt (m : Square) (c : CarriedTrack) (i : ℕ) : Type 0 where
  pub entry : IsCount (slice_index c.u i)
  pub next : times m (slice_index c.u) i < number_limit
  pub at_least : c.low.0 * slice_index c.u i ≤ c.low.1 * times m (slice_index c.u) i
  pub at_most : c.high.1 * times m (slice_index c.u) i ≤ c.high.0 * slice_index c.u i
