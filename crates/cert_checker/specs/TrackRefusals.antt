-- The first rule that refuses a certificate of a pseudo-Anosov word, and the place that is told.
use Rattle.std.specs.Prelude.{◌≡◌, ◌≢◌, ◌<◌, ◌≤◌, ◌+◌, ℕ, ℤ, List, length, map, max, min}
use Rattle.ideal_tri.specs.Vertices.{vertex_count}
use Rattle.tri_atlas.specs.FlipPaths.{CanBeFlipped}
use Rattle.tri_atlas.specs.Maps.{IsMap, path_map}
use Rattle.tri_atlas.specs.Moves.{Move}
use Rattle.free_groupoid.specs.Periodic.{IsWithin}
use Rattle.train_track.specs.Branches.{IsBranchList}
use Rattle.train_track.specs.Tracks.{ArePlaced, IsFilling, switches_of}
use Rattle.cert_text.specs.Certificates.{CarriedTrack}
use Rattle.cert_text.specs.Limits.{letter_cap, flip_limit}
use Rattle.cert_text.specs.PseudoAnosov.{IsCarriedTrack, letters_of_words, matrix_of}
use Rattle.cert_text.specs.PseudoAnosov.{track_path, track_triangles}
use Rattle.cert_checker.specs.FirstFailing.{IsFirstFailing, AllPass}
use Rattle.cert_checker.specs.TrackRules.{IsPower, CanBeFlippedAt, IsCornerAt, IsOpenAt}
use Rattle.cert_checker.specs.TrackRules.{IsAnchorAt, IsImageAt, IsRowAt, IsExponent, ArePairs}
use Rattle.cert_checker.specs.TrackRules.{IsBoundedAt}

-- ---- where one rule fails first

-- 12: of the power 0 is told, of the number of flips 100, and of a flip its number, from 1
pub data IsFlipRefusal (triples : List (List ℤ)) (c : CarriedTrack) (place : ℕ) : Type 0 where
  by_power : place ≡ 0 → ¬ IsPower c.power → IsFlipRefusal triples c place
  by_number : place ≡ 100 → IsPower c.power → ¬ (length c.flips ≤ flip_limit)
      → IsFlipRefusal triples c place
  by_flip : (i : ℕ) → place ≡ 1 + i → IsPower c.power → length c.flips ≤ flip_limit
      → IsFirstFailing (length c.flips) (CanBeFlippedAt triples c.flips) i
      → IsFlipRefusal triples c place

-- 13: of an entry its place is told, and of a vertex its number and 1,000
pub data IsCornerRefusal (triples : List (List ℤ)) (corners : List ℤ) (place : ℕ) : Type 0 where
  by_entry : IsFirstFailing (length corners) (IsCornerAt triples corners) place
      → IsCornerRefusal triples corners place
  by_vertex : (v : ℕ) → place ≡ 1000 + v → AllPass (length corners) (IsCornerAt triples corners)
      → IsFirstFailing (vertex_count triples) (IsOpenAt triples corners) v
      → IsCornerRefusal triples corners place

-- 15 and 16: so many tests are made of two lists whose entries belong together, and then of their
-- lengths, where the shorter one is told; and of the letters in all, where the number of switches, or
-- of branches, is told
pub data IsListRefusal (given wanted letters : ℕ) (Passes : ℕ → Type 0) (place : ℕ) : Type 0 where
  by_entry : IsFirstFailing (min given wanted) Passes place
      → IsListRefusal given wanted letters Passes place
  by_length : place ≡ min given wanted → AllPass (min given wanted) Passes → given ≢ wanted
      → IsListRefusal given wanted letters Passes place
  by_letters : place ≡ wanted → AllPass wanted Passes → given ≡ wanted → letter_cap < letters
      → IsListRefusal given wanted letters Passes place

-- 17: of a row its number is told, also of one that lacks or is too many, and of the exponent the
-- number of branches
pub data IsMatrixRefusal (branches : List (List ℤ)) (c : CarriedTrack) (place : ℕ) : Type 0 where
  by_row : IsFirstFailing (max (length branches) (length c.matrix)) (IsRowAt branches c) place
      → IsMatrixRefusal branches c place
  by_exponent : place ≡ length branches
      → AllPass (max (length branches) (length c.matrix)) (IsRowAt branches c)
      → ¬ IsExponent (matrix_of c) c.exponent → IsMatrixRefusal branches c place

-- 18: of the length the number n of branches is told, of the four numbers n + 1, and of an entry its
-- place
pub data IsGrowthRefusal (n : ℕ) (c : CarriedTrack) (place : ℕ) : Type 0 where
  by_length : place ≡ n → length c.u ≢ n → IsGrowthRefusal n c place
  by_pairs : place ≡ n + 1 → length c.u ≡ n → ¬ ArePairs c → IsGrowthRefusal n c place
  by_entry : length c.u ≡ n → ArePairs c
      → IsFirstFailing n (IsBoundedAt (matrix_of c) c) place
      → IsGrowthRefusal n c place

-- ---- what the first rules leave to the later ones

-- rule 12 holds
pub record IsFlipped (triples : List (List ℤ)) (c : CarriedTrack) : Type 0 where
  pub power : IsPower c.power
  pub few_flips : length c.flips ≤ flip_limit
  pub flips : CanBeFlipped triples c.flips

-- rules 12 to 14 hold; these are the branches of the track, and the path sends the triangles here
pub record IsMapped (triples : List (List ℤ)) (moves : List Move) (c : CarriedTrack)
    (branches : List (List ℤ)) (triangles : ℕ → ℕ) : Type 0 where
  pub flipped : IsFlipped triples c
  pub corners : ArePlaced (track_triangles triples c) c.left_out
  pub filling : IsFilling (track_triangles triples c) c.left_out
  pub within_cap : IsWithin (track_triangles triples c) (track_path triples moves c) letter_cap
  pub listed : IsBranchList (track_triangles triples c) c.left_out branches
  pub map : IsMap (track_triangles triples c) (track_triangles triples c)
      (path_map (track_path triples moves c)) triangles

-- rules 12 to 15 hold
pub record IsAnchored (triples : List (List ℤ)) (moves : List Move) (c : CarriedTrack)
    (branches : List (List ℤ)) (triangles : ℕ → ℕ) : Type 0 where
  pub mapped : IsMapped triples moves c branches triangles
  pub one_anchor_each : length c.anchors
      ≡ length (switches_of (track_triangles triples c) c.left_out)
  pub anchors : AllPass (length c.anchors)
      (IsAnchorAt (track_triangles triples c) c.left_out triangles c.anchors)
  pub few_to_connect : letters_of_words (map (λ a. a.connect) c.anchors) ≤ letter_cap

-- ---- the first rule that fails, and the place that is told

pub data IsTrackRefusal (triples : List (List ℤ)) (moves : List Move) (c : CarriedTrack)
    (rule place : ℕ) : Type 0 where
  by_flips : rule ≡ 12 → IsFlipRefusal triples c place
      → IsTrackRefusal triples moves c rule place
  by_corners : rule ≡ 13 → IsFlipped triples c
      → IsCornerRefusal (track_triangles triples c) c.left_out place
      → IsTrackRefusal triples moves c rule place
  by_cap : rule ≡ 14 → place ≡ 0 → IsFlipped triples c
      → ArePlaced (track_triangles triples c) c.left_out
      → IsFilling (track_triangles triples c) c.left_out
      → ¬ IsWithin (track_triangles triples c) (track_path triples moves c) letter_cap
      → IsTrackRefusal triples moves c rule place
  by_anchors : (branches : List (List ℤ)) (triangles : ℕ → ℕ) → rule ≡ 15
      → IsMapped triples moves c branches triangles
      → IsListRefusal (length c.anchors)
      (length (switches_of (track_triangles triples c) c.left_out))
      (letters_of_words (map (λ a. a.connect) c.anchors))
      (IsAnchorAt (track_triangles triples c) c.left_out triangles c.anchors) place
      → IsTrackRefusal triples moves c rule place
  by_images : (branches : List (List ℤ)) (triangles : ℕ → ℕ) → rule ≡ 16
      → IsAnchored triples moves c branches triangles
      → IsListRefusal (length c.images) (length branches) (letters_of_words c.images)
      (IsImageAt (track_triangles triples c) (track_path triples moves c) c branches) place
      → IsTrackRefusal triples moves c rule place
  by_matrix : (branches : List (List ℤ)) (triangles : ℕ → ℕ) → rule ≡ 17
      → IsAnchored triples moves c branches triangles
      → length c.images ≡ length branches
      → AllPass (length branches)
      (IsImageAt (track_triangles triples c) (track_path triples moves c) c branches)
      → letters_of_words c.images ≤ letter_cap
      → IsMatrixRefusal branches c place
      → IsTrackRefusal triples moves c rule place
  by_growth : rule ≡ 18 → IsFlipped triples c
      → IsCarriedTrack (track_triangles triples c) (track_path triples moves c) c
      → IsExponent (matrix_of c) c.exponent
      → IsGrowthRefusal (length c.matrix) c place
      → IsTrackRefusal triples moves c rule place
