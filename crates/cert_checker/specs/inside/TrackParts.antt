-- What the rules 15 to 18 hold of, for a track and a map on its triangulation.
use Rattle.std.specs.Prelude.{◌≡◌, ◌<◌, ◌≤◌, ℕ, ℤ, List, [], length, map, max, slice_index_or}
use Rattle.ideal_tri.specs.Triangulations.{IsTriangulation}
use Rattle.train_track.specs.Branches.{TrainTrack, IsTrackOn, words_of}
use Rattle.train_track.specs.Tracks.{switches_of}
use Rattle.carry_map.specs.AnchorLaws.{AreConnected}
use Rattle.carry_map.specs.CarriedMaps.{IsTrainPath}
use Rattle.cert_text.specs.Certificates.{Anchored, CarriedTrack}
use Rattle.cert_text.specs.Limits.{letter_cap}
use Rattle.cert_text.specs.PseudoAnosov.{carrying_of, letters_of_words, matrix_of}
use Rattle.cert_checker.specs.FirstFailing.{AllPass}
use Rattle.cert_checker.specs.TrackRefusals.{IsListRefusal}
use Rattle.cert_checker.specs.TrackRules.{ArePairs, IsAnchorAt, IsBoundedAt, IsExponent, IsRowAt}

-- ---- 15

abbrev pub connections : List Anchored → List (List ℤ)
connections anchors = map (λ a. a.connect) anchors

pub record AreAnchors (triples : List (List ℤ)) (left_out : List ℤ) (triangles : ℕ → ℕ)
    (anchors : List Anchored) : Type 0 where
  pub one_each : length anchors ≡ length (switches_of triples left_out)
  pub all : AllPass (length anchors) (IsAnchorAt triples left_out triangles anchors)
  pub few : letters_of_words (connections anchors) ≤ letter_cap

abbrev pub AreNoAnchors : List (List ℤ) → List ℤ → (ℕ → ℕ) → List Anchored → ℕ → Type 0
AreNoAnchors triples left_out triangles anchors place =
    IsListRefusal (length anchors) (length (switches_of triples left_out))
    (letters_of_words (connections anchors)) (IsAnchorAt triples left_out triangles anchors) place

-- ---- 16

-- the j-th image is the train path of the j-th branch
abbrev pub IsImageOf : List (List ℤ) → List ℤ → (ℤ → List ℤ) → CarriedTrack → List (List ℤ) → ℕ
    → Type 0
IsImageOf triples left_out f c branches j =
    IsTrainPath triples left_out f (carrying_of c) (slice_index_or branches j [])
    (slice_index_or c.images j [])

pub record AreImages (triples : List (List ℤ)) (left_out : List ℤ) (f : ℤ → List ℤ)
    (c : CarriedTrack) (branches : List (List ℤ)) : Type 0 where
  pub one_each : length c.images ≡ length branches
  pub all : AllPass (length branches) (IsImageOf triples left_out f c branches)
  pub few : letters_of_words c.images ≤ letter_cap

abbrev pub AreNoImages : List (List ℤ) → List ℤ → (ℤ → List ℤ) → CarriedTrack → List (List ℤ) → ℕ
    → Type 0
AreNoImages triples left_out f c branches place =
    IsListRefusal (length c.images) (length branches) (letters_of_words c.images)
    (IsImageOf triples left_out f c branches) place

-- ---- 17

-- the rules before hold, so that each image is a legal walk from a switch to a switch
pub record CanBePassed (triples : List (List ℤ)) (track : TrainTrack) (c : CarriedTrack)
    : Type 0 where
  pub sound : IsTriangulation triples
  pub on : IsTrackOn triples track
  pub triangles : ℕ → ℕ
  pub connected : AreConnected triples track.left_out triangles (carrying_of c)
  pub f : ℤ → List ℤ
  pub images : AreImages triples track.left_out f c (words_of track.branches)

pub record IsMatrix (branches : List (List ℤ)) (c : CarriedTrack) : Type 0 where
  pub rows : AllPass (max (length branches) (length c.matrix)) (IsRowAt branches c)
  pub exponent : IsExponent (matrix_of c) c.exponent

-- ---- 18

-- each row has as many entries as there are rows
abbrev pub IsSquare : CarriedTrack → Type 0
IsSquare c = (i : ℕ) → i < length c.matrix → length (slice_index_or c.matrix i []) ≡ length c.matrix

pub record IsBounded (c : CarriedTrack) : Type 0 where
  pub one_each : length c.u ≡ length c.matrix
  pub pairs : ArePairs c
  pub all : AllPass (length c.matrix) (IsBoundedAt (matrix_of c) c)
