-- The tests of a candidate for a carried train track: of left-out corners of a triangulation, and the
-- path from there to itself whose map is to carry the track. There are two series of candidates; they
-- differ in how the anchors of the switches are chosen, and in the powers of the matrix whose growth
-- counts.
use Rattle.std.specs.Prelude.{◌≡◌, ◌<◌, ◌≤◌, ℕ, ℤ, pos, List, [], length, map, slice_index_or}
use Rattle.tri_atlas.specs.Maps.{path_map}
use Rattle.tri_atlas.specs.Moves.{Move}
use Rattle.free_groupoid.specs.Periodic.{IsFirstPast, IsWithin}
use Rattle.train_track.specs.Branches.{IsBranchList, letter_at}
use Rattle.train_track.specs.Refusals.{IsLeastClosed, IsLeastWithTwo}
use Rattle.train_track.specs.Tracks.{IsFilling, IsSingleInTriangles, switches_of}
use Rattle.transition_matrix.specs.Matrices.{Square, IsLeastExponent, IsPositivePower}
use Rattle.growth_bounds.specs.Rule.{Grows, IsRuledBy, IsWidelyRuledBy}
use Rattle.growth_bounds.specs.declared.rule.GrowthBounds.{GrowthBounds}
use Rattle.carry_map.specs.AnchorAnswers.{AreAnchors, FitsBy, IsFirstUnfit, IsFirstWithout, PassesCap}
use Rattle.carry_map.specs.AnchorAnswers.{letters_together, path_by}
use Rattle.carry_map.specs.Anchors.{Place}
use Rattle.carry_map.specs.Iterates.{IsTransition}
use Rattle.carry_map.specs.MiddleAnchors.{AreMiddleAnchors}
use Rattle.cert_text.specs.Certificates.{CarriedTrack}
use Rattle.cert_text.specs.Limits.{exponent_limit, letter_cap}
use Rattle.cert_text.specs.PseudoAnosov.{matrix_of}
use Rattle.cert_text.specs.declared.lines.TrackLine.{TrackLine}
use Rattle.cert_text.specs.declared.lines.TrackLine.TheVariants.{TwoLeftOut, VertexClosed, Cap, NoCommon}
use Rattle.cert_text.specs.declared.lines.TrackLine.TheVariants.{Illegal, PathsCap, NotPrimitive}
use Rattle.cert_text.specs.declared.lines.TrackLine.TheVariants.{NoBounds}
use Rattle.verdict_plan.specs.declared.series.Series.{Series}
use Rattle.verdict_plan.specs.declared.series.Series.TheVariants.{First, Further}

-- ---- the two series

-- the anchors: the first place of each switch, or the one in the middle
abbrev pub AreAnchorsIn : Series → List (List ℤ) → List ℤ → List (List ℤ) → (ℤ → List ℤ) → List Place
    → Type 0
AreAnchorsIn First triples left_out branches f anchors = AreAnchors triples left_out f anchors
AreAnchorsIn Further triples left_out branches f anchors =
    AreMiddleAnchors triples left_out branches f anchors

-- the bounds: from the first power from the fourth on that grows, or else from a lower one
abbrev pub IsRuledIn : Series → Square → GrowthBounds → Type 0
IsRuledIn First m bounds = IsRuledBy m bounds
IsRuledIn Further m bounds = IsWidelyRuledBy m bounds

abbrev pub HasNoGrowthIn : Series → Square → Type 0
HasNoGrowthIn First m = (j : ℕ) → 4 ≤ j → j ≤ 64 → ¬ Grows m j
HasNoGrowthIn Further m = (j : ℕ) → j ≤ 64 → ¬ Grows m j

-- ---- what the tests have found so far

-- the track fills, and no map of the path has too many letters
pub record IsMapped (triples : List (List ℤ)) (path : List Move) (left_out : List ℤ) : Type 0 where
  pub filling : IsFilling triples left_out
  pub within_cap : IsWithin triples path letter_cap

-- each switch has an anchor
pub record IsAnchoredBy (series : Series) (triples : List (List ℤ)) (path : List Move)
    (left_out : List ℤ) (branches : List (List ℤ)) (anchors : List Place) : Type 0 where
  pub mapped : IsMapped triples path left_out
  pub listed : IsBranchList triples left_out branches
  pub chosen : AreAnchorsIn series triples left_out branches (path_map path) anchors

-- the train paths of the branches by these anchors
abbrev pub train_paths : List (List ℤ) → List Move → List ℤ → List (List ℤ) → List Place
    → List (List ℤ)
train_paths triples path left_out branches anchors =
    map (path_by triples left_out (path_map path) anchors) branches

-- the train paths fit
pub record IsFitting (series : Series) (triples : List (List ℤ)) (path : List Move)
    (left_out : List ℤ) (branches : List (List ℤ)) (anchors : List Place) : Type 0 where
  pub anchored : IsAnchoredBy series triples path left_out branches anchors
  pub fit : (j : ℕ) → j < length branches
      → FitsBy triples left_out (path_map path) anchors (slice_index_or branches j [])

-- they and the connecting walks are short enough, and the matrix counts their passes
pub record IsCounted (series : Series) (triples : List (List ℤ)) (path : List Move)
    (left_out : List ℤ) (branches : List (List ℤ)) (anchors : List Place) (m : Square) : Type 0 where
  pub fitting : IsFitting series triples path left_out branches anchors
  pub few_between : letters_together (map (λ p. p.connect) anchors) ≤ letter_cap
  pub few_along : letters_together (train_paths triples path left_out branches anchors) ≤ letter_cap
  pub matrix : IsTransition branches (train_paths triples path left_out branches anchors) m

-- ---- the tests

-- the first test that fails
abbrev pub IsTrackLine : Series → List (List ℤ) → List Move → List ℤ → TrackLine → Type 0
IsTrackLine series triples path left_out (TwoLeftOut t) = IsLeastWithTwo triples left_out t
IsTrackLine series triples path left_out (VertexClosed v) =
    IsSingleInTriangles triples left_out × IsLeastClosed triples left_out v
IsTrackLine series triples path left_out (Cap letters) =
    IsFilling triples left_out
    × ((made : ℕ) × IsFirstPast triples path letter_cap made letters)
IsTrackLine series triples path left_out (NoCommon e) =
    IsMapped triples path left_out
    × ((i : ℕ) × IsFirstWithout triples left_out (path_map path) i
    × (pos e ≡ letter_at (switches_of triples left_out) i))
IsTrackLine series triples path left_out (Illegal j) =
    (branches : List (List ℤ)) × (anchors : List Place)
    × IsAnchoredBy series triples path left_out branches anchors
    × IsFirstUnfit triples left_out branches (path_map path) anchors j
IsTrackLine series triples path left_out (PathsCap letters) =
    (branches : List (List ℤ)) × (anchors : List Place)
    × IsFitting series triples path left_out branches anchors
    × PassesCap (map (λ p. p.connect) anchors)
    (train_paths triples path left_out branches anchors) letter_cap letters
IsTrackLine series triples path left_out NotPrimitive =
    (branches : List (List ℤ)) × (anchors : List Place) × (m : Square)
    × IsCounted series triples path left_out branches anchors m
    × ((k : ℕ) → 0 < k → k ≤ exponent_limit → ¬ IsPositivePower m k)
IsTrackLine series triples path left_out NoBounds =
    (branches : List (List ℤ)) × (anchors : List Place) × (m : Square)
    × IsCounted series triples path left_out branches anchors m
    × ((k : ℕ) × IsLeastExponent m k × (k ≤ exponent_limit))
    × HasNoGrowthIn series m

-- no test fails, and the certificate has what they found
pub record IsPassing (series : Series) (triples : List (List ℤ)) (path : List Move)
    (left_out : List ℤ) (c : CarriedTrack) : Type 0 where
  pub branches : List (List ℤ)
  pub anchors : List Place
  pub counted : IsCounted series triples path left_out branches anchors (matrix_of c)
  pub corners : c.left_out ≡ left_out
  pub switches : map (λ a. a.switch) c.anchors ≡ switches_of triples left_out
  pub to : map (λ a. a.to) c.anchors ≡ map (λ p. p.label) anchors
  pub connect : map (λ a. a.connect) c.anchors ≡ map (λ p. p.connect) anchors
  pub images : c.images ≡ train_paths triples path left_out branches anchors
  pub rows : (i : ℕ) → i < length c.matrix
      → length (slice_index_or c.matrix i []) ≡ length c.matrix
  pub exponent : IsLeastExponent (matrix_of c) c.exponent
  pub within_limit : c.exponent ≤ exponent_limit
  pub bounds : GrowthBounds
  pub ruled : IsRuledIn series (matrix_of c) bounds
  pub row : c.u ≡ bounds.u.items
  pub low : c.low ≡ bounds.low
  pub high : c.high ≡ bounds.high
