-- When a certificate of a carried train track holds for a word. The word's path runs from the
-- triangulation to itself, and these are its moves.
use Rattle.std.specs.Prelude.{◌≡◌, ◌<◌, ◌≤◌, ◌++◌, ℕ, ℤ, List, [], length, map, sum}
use Rattle.std.specs.Prelude.{slice_index, slice_index_or}
use Rattle.std.specs.List.{flat_map, repeat}
use Rattle.tri_atlas.specs.Maps.{IsMap, path_map}
use Rattle.tri_atlas.specs.Moves.{Move, back_along}
use Rattle.free_groupoid.specs.Periodic.{IsWithin}
use Rattle.train_track.specs.Branches.{IsBranchList}
use Rattle.train_track.specs.Tracks.{ArePlaced, IsFilling, switches_of}
use Rattle.transition_matrix.specs.Bounds.{times, IsBounds}
use Rattle.transition_matrix.specs.Matrices.{Square, IsPositivePower}
use Rattle.carry_map.specs.CarriedMaps.{Carrying, IsCarried}
use Rattle.tri_atlas.specs.FlipPaths.{CanBeFlipped, flips_along, flipped_along}
use Rattle.carry_map.specs.Iterates.{IsTransition}
use Rattle.cert_text.specs.Certificates.{CarriedTrack}
use Rattle.cert_text.specs.Limits.{letter_cap, power_limit, flip_limit, exponent_limit, number_limit}

-- ---- what the certificate names

-- the triangulation behind the flips, which the track lies on
abbrev pub track_triangles : List (List ℤ) → CarriedTrack → List (List ℤ)
track_triangles triples c = flipped_along triples c.flips

-- the path from the triangulation behind these flips to itself: the flips backwards, the word so many
-- times, and the flips
abbrev pub conjugated : List (List ℤ) → List Move → List ℕ → ℕ → List Move
conjugated triples moves edges power =
    let flips = flips_along triples edges in back_along flips ++ (repeat power moves ++ flips)

abbrev pub track_path : List (List ℤ) → List Move → CarriedTrack → List Move
track_path triples moves c = conjugated triples moves c.flips c.power

-- where the switches go, the walks there, and the train paths
abbrev pub carrying_of : CarriedTrack → Carrying
carrying_of c = record {
  to = map (λ a. a.to) c.anchors;
  connect = map (λ a. a.connect) c.anchors;
  images = c.images;
}

-- the matrix of these rows
abbrev pub matrix_of : CarriedTrack → Square
matrix_of c = record { size = length c.matrix; entries = flat_map (λ row. row) c.matrix }

-- so many letters in all
abbrev pub letters_of_words : List (List ℤ) → ℕ
letters_of_words words = sum (map length words)

-- ---- when it holds

-- the track lies on this triangulation, fills it, and the map of this path carries it
pub record IsCarriedTrack (triples : List (List ℤ)) (path : List Move) (c : CarriedTrack)
    : Type 0 where
  pub corners : ArePlaced triples c.left_out
  pub filling : IsFilling triples c.left_out
  pub within_cap : IsWithin triples path letter_cap
  pub switches : map (λ a. a.switch) c.anchors ≡ switches_of triples c.left_out
  pub few_to_connect : letters_of_words (map (λ a. a.connect) c.anchors) ≤ letter_cap
  pub few_in_images : letters_of_words c.images ≤ letter_cap
  pub branches : List (List ℤ)
  pub listed : IsBranchList triples c.left_out branches
  pub triangles : ℕ → ℕ
  pub map : IsMap triples triples (path_map path) triangles
  pub carried : IsCarried triples c.left_out branches (path_map path) triangles (carrying_of c)
  -- the matrix has one row and one column for each branch, and counts the passes
  pub rows : (i : ℕ) → i < length c.matrix
      → length (slice_index_or c.matrix i []) ≡ length c.matrix
  pub matrix : IsTransition branches c.images (matrix_of c)

-- the number is from 1 to 2^63 - 1
abbrev pub IsCount : ℕ → Type 0
IsCount n = (0 < n) × (n < number_limit)

-- the matrix is primitive, by this exponent, and these bound its growth
pub record IsGrowing (m : Square) (c : CarriedTrack) : Type 0 where
  pub some : 0 < c.exponent
  pub within_limit : c.exponent ≤ exponent_limit
  pub positive : IsPositivePower m c.exponent
  pub bounds : IsBounds m c.u c.low c.high
  pub low : IsCount c.low.0 × IsCount c.low.1
  pub high : IsCount c.high.0 × IsCount c.high.1
  pub row : (i : ℕ) → i < m.size → slice_index c.u i < number_limit
  pub next_row : (i : ℕ) → i < m.size → times m (slice_index c.u) i < number_limit

pub record IsPseudoAnosovCertificate (triples : List (List ℤ)) (moves : List Move) (c : CarriedTrack)
    : Type 0 where
  pub positive : 0 < c.power
  pub within_limit : c.power ≤ power_limit
  pub few_flips : length c.flips ≤ flip_limit
  pub flips : CanBeFlipped triples c.flips
  pub track : IsCarriedTrack (track_triangles triples c) (track_path triples moves c) c
  pub growth : IsGrowing (matrix_of c) c
