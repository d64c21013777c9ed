-- What the tests of a candidate for a carried train track know, one after another.
use Rattle.std.specs.Prelude.{◌≡◌, ◌<◌, ◌≤◌, ℕ, ℤ, List, [], length, map, slice_index_or}
use Rattle.std.specs.Prelude.{All, Vec}
use Rattle.std.specs.Global.{Global}
use Rattle.std.specs.List.{flat_map}
use Rattle.ideal_tri.specs.Triangulations.{IsTriangulation}
use Rattle.tri_atlas.specs.Arena.{Arena, triangulation}
use Rattle.tri_atlas.specs.Maps.{IsMap, path_map}
use Rattle.tri_atlas.specs.Moves.{Move}
use Rattle.tri_atlas.specs.Paths.{MovePath, IsPathIn, moves_of}
use Rattle.free_groupoid.specs.GroupoidMaps.{GroupoidMap}
use Rattle.free_groupoid.specs.Periodic.{IsWithin}
use Rattle.free_groupoid.specs.PeriodicLaws.{map_along}
use Rattle.free_groupoid.specs.Walks.{IsWalkOn}
use Rattle.train_track.specs.Branches.{TrainTrack, IsTrackIn, IsTrackOn, words_of}
use Rattle.train_track.specs.Passes.{Pass, ArePassesOf, IsFromSwitchToSwitch}
use Rattle.train_track.specs.Tracks.{ArePlaced}
use Rattle.transition_matrix.specs.Bounds.{IsBounds}
use Rattle.transition_matrix.specs.Matrices.{Square, IsLeastExponent, IsPositivePower}
use Rattle.carry_map.specs.AnchorAnswers.{IsAnchorAnswer, IsMapOnTrack, IsRefusedFor}
use Rattle.carry_map.specs.AnchorAnswers.{letters_together}
use Rattle.carry_map.specs.Anchors.{Place}
use Rattle.carry_map.specs.CarriedMaps.{IsCarried}
use Rattle.tri_atlas.specs.FlipPaths.{CanBeFlipped}
use Rattle.carry_map.specs.CarryingWalks.{CarryingWalks as Carried, carrying_of as carrying}
use Rattle.carry_map.specs.MiddleAnchors.{IsMiddleAnswer, IsMiddleRefusal}
use Rattle.carry_map.specs.declared.carry.AnchorError.{AnchorError}
use Rattle.cert_text.specs.Certificates.{CarriedTrack, rows_of}
use Rattle.cert_text.specs.Limits.{exponent_limit, flip_limit, letter_cap, power_limit}
use Rattle.cert_text.specs.PseudoAnosov.{carrying_of, matrix_of, track_path, track_triangles}
use Rattle.cert_text.specs.PseudoAnosov.{IsPseudoAnosovCertificate}
use Rattle.cert_text.specs.declared.lines.TrackLine.{TrackLine}
use Rattle.cert_text.specs.declared.lines.TrackLine.TheVariants.{NotPrimitive, NoBounds}
use Rattle.verdict_plan.specs.TrackTests.{HasNoGrowthIn, IsFitting, IsPassing, IsRuledIn}
use Rattle.verdict_plan.specs.TrackTests.{train_paths}
use Rattle.verdict_plan.specs.declared.series.Series.{Series}
use Rattle.verdict_plan.specs.declared.series.Series.TheVariants.{First, Further}
use Rattle.verdict_plan.specs.declared.track_growth.Growth.{Growth}

-- ---- the map

-- the path leads from the triangulation of the track to itself
pub record IsPathOnTrack (arena : Arena) (track : TrainTrack) (path : MovePath) : Type 0 where
  pub on : IsTrackIn arena track
  pub leads : IsPathIn arena path
  pub start : path.start ≡ track.tri
  pub end : path.end ≡ track.tri

-- its map, which has no more letters than the cap after any move
pub record IsMapAlong (arena : Arena) (track : TrainTrack) (path : MovePath) (psi : GroupoidMap)
    : Type 0 where
  pub along : IsPathOnTrack arena track path
  pub map : IsMapOnTrack arena track psi
  pub is : psi ≡ map_along arena path
  pub within_cap : IsWithin (triangulation arena track.tri) (moves_of arena path) letter_cap

-- ---- the carrying

-- what the rule for anchors answers
abbrev pub IsAnswerIn : Series → List (List ℤ) → TrainTrack → GroupoidMap → ℕ → Carried → Type 0
IsAnswerIn First triples track psi cap c = IsAnchorAnswer triples track psi cap c
IsAnswerIn Further triples track psi cap c = IsMiddleAnswer triples track psi cap c

-- or why it has no answer
abbrev pub IsRefusedIn : Series → List (List ℤ) → TrainTrack → GroupoidMap → ℕ → AnchorError
    → Type 0
IsRefusedIn First triples track psi cap e = IsRefusedFor triples track psi cap e
IsRefusedIn Further triples track psi cap e = IsMiddleRefusal triples track psi cap e

-- the map of the path carries the track so, by the anchors of its switches
pub record IsCarriedAlong (series : Series) (triples : List (List ℤ)) (path : List Move)
    (track : TrainTrack) (c : Carried) : Type 0 where
  pub on : IsTrackOn triples track
  pub walks : All (IsWalkOn triples) c.images
  pub anchors : List Place
  pub fitting : IsFitting series triples path track.left_out (words_of track.branches) anchors
  pub few_between : letters_together (map (λ p. p.connect) anchors) ≤ letter_cap
  pub few_along : letters_together (words_of c.images) ≤ letter_cap
  pub to : c.to ≡ map (λ p. p.label) anchors
  pub connect : words_of c.connect ≡ map (λ p. p.connect) anchors
  pub images : words_of c.images
      ≡ train_paths triples path track.left_out (words_of track.branches) anchors
  pub triangles : ℕ → ℕ
  pub map : IsMap triples triples (path_map path) triangles
  pub carried : IsCarried triples track.left_out (words_of track.branches) (path_map path) triangles
      (carrying c)

-- ---- the matrix

-- the train paths can be cut into branches, and aren't long
pub record CanBeCounted (track : TrainTrack) (c : Carried) : Type 0 where
  pub triples : List (List ℤ)
  pub sound : IsTriangulation triples
  pub on : IsTrackOn triples track
  pub one_each : length c.images ≡ length track.branches
  pub paths : All (IsFromSwitchToSwitch triples track.left_out) c.images
  pub few : letters_together (words_of c.images) ≤ letter_cap

-- there are so many columns, each with the numbers of the branches that one train path passes
pub record ArePassColumns (branches images : List (List ℤ)) (n : ℕ) (columns : List (Vec ℕ Global))
    : Type 0 where
  pub as_many : length columns ≡ n
  pub passes : (j : ℕ) → j < length columns
      → (passes : List Pass) × ArePassesOf branches passes (slice_index_or images j [])
      × (slice_index_or (rows_of columns) j [] ≡ map (λ p. p.branch) passes)

-- the lists are the rows of the matrix
pub record AreRows (m : Square) (rows : List (List ℕ)) : Type 0 where
  pub matrix : record { size = length rows; entries = flat_map (λ row. row) rows } ≡ m
  pub lengths : (i : ℕ) → i < length rows → length (slice_index_or rows i []) ≡ length rows

-- ---- its growth

-- the least exponent, within the limit, and the bounds of the rule
pub record GrowsSo (series : Series) (m : Square) (growth : Growth) : Type 0 where
  pub exponent : IsLeastExponent m growth.exponent
  pub within_limit : growth.exponent ≤ exponent_limit
  pub ruled : IsRuledIn series m growth.bounds
  pub bounds : IsBounds m growth.bounds.u.items growth.bounds.low growth.bounds.high

-- there is no exponent within the limit, or there is one and the rule gives no bounds
abbrev pub GrowsNot : Series → Square → TrackLine → Type 0
GrowsNot series m NotPrimitive = (k : ℕ) → 0 < k → k ≤ exponent_limit → ¬ IsPositivePower m k
GrowsNot series m NoBounds =
    ((k : ℕ) × IsLeastExponent m k × (k ≤ exponent_limit)) × HasNoGrowthIn series m
GrowsNot series m _ = ⊥

-- ---- the certificate

-- the certificate tells what was found
pub record Tells (track : TrainTrack) (carried : Carried) (m : Square) (growth : Growth)
    (c : CarriedTrack) : Type 0 where
  pub left_out : c.left_out ≡ track.left_out
  pub switches : map (λ a. a.switch) c.anchors ≡ track.switches
  pub to : map (λ a. a.to) c.anchors ≡ carried.to
  pub connect : map (λ a. a.connect) c.anchors ≡ words_of carried.connect
  pub images : c.images ≡ words_of carried.images
  pub rows : AreRows m c.matrix
  pub exponent : c.exponent ≡ growth.exponent
  pub row : c.u ≡ growth.bounds.u.items
  pub low : c.low ≡ growth.bounds.low
  pub high : c.high ≡ growth.bounds.high

-- the certificate passes, and what it names is a carried track
pub record IsSoundPass (series : Series) (triples : List (List ℤ)) (path : List Move)
    (left_out : List ℤ) (c : CarriedTrack) : Type 0 where
  pub passing : IsPassing series triples path left_out c
  pub corners : ArePlaced triples left_out
  pub triangles : ℕ → ℕ
  pub map : IsMap triples triples (path_map path) triangles
  pub carried : IsCarried triples left_out passing.branches (path_map path) triangles
      (carrying_of c)
  pub bounds : IsBounds (matrix_of c) c.u c.low c.high

-- a candidate of either series that passes gives a certificate that holds, where the power and the
-- flips are within the limits and each edge can be flipped where it is
abbrev pub PassLaw : Type 0
PassLaw = (series : Series) (triples : List (List ℤ)) (moves : List Move) (left_out : List ℤ)
    (c : CarriedTrack) → 0 < c.power → c.power ≤ power_limit → length c.flips ≤ flip_limit
    → CanBeFlipped triples c.flips
    → IsSoundPass series (track_triangles triples c) (track_path triples moves c) left_out c
    → IsPseudoAnosovCertificate triples moves c
