-- The further candidates for a carried train track. They belong to one cycle, and go deeper than the
-- first ones. Their tracks leave out the corners with light counts, and a track where some switch has
-- no anchor may be repaired by a flip of that switch.
use Rattle.std.specs.Prelude.{◌≡◌, ◌⊎◌, ◌↔◌, ◌<◌, ◌≤◌, ◌+◌, ◌/◌, ◌%◌, ◌-◌, ◌++◌, ◌∷◌, ℕ, ℤ, pos, true}
use Rattle.std.specs.Prelude.{List, [], length, slice_index_or}
use Rattle.ideal_tri.specs.Flips.{flipped}
use Rattle.ideal_tri.specs.Triangulations.{IsLabel}
use Rattle.ideal_tri.specs.Vectors.{corner_count}
use Rattle.tri_atlas.specs.Arena.{flip_of}
use Rattle.tri_atlas.specs.FlipPaths.{IsFlippableEdge}
use Rattle.tri_atlas.specs.MovedVectors.{vector_after, IsOver}
use Rattle.tri_atlas.specs.Moves.{Move}
use Rattle.edge_coords.specs.declared.coords.TheConstants.{COORDINATE_LIMIT}
use Rattle.train_track.specs.Tracks.{ArePlaced, is_left_out}
use Rattle.cycle_stages.specs.Light.{IsLight}
use Rattle.cycle_stages.specs.Stages.{IsStage}
use Rattle.cert_text.specs.Certificates.{CarriedTrack}
use Rattle.cert_text.specs.PseudoAnosov.{conjugated}
use Rattle.cert_text.specs.declared.lines.TrackLine.{TrackLine}
use Rattle.cert_text.specs.declared.lines.TrackLine.TheVariants.{NoCommon}
use Rattle.verdict_plan.specs.TrackTests.{IsPassing, IsTrackLine}
use Rattle.verdict_plan.specs.declared.series.Series.TheVariants.{Further}

-- ---- numbers

-- how many depths, how many candidates, and how many tracks of one candidate at most
abbrev pub depths : ℕ
depths = 56

abbrev pub further_count : ℕ
further_count = 112

abbrev pub most_tracks : ℕ
most_tracks = 9

-- the power of candidate n, and the depth of its first track
abbrev pub further_power : ℕ → ℕ
further_power n = 1 + n / depths

abbrev pub further_depth : ℕ → ℕ
further_depth n = n % depths

-- ---- a track

-- flips from the base, the triangulation behind them, and a vector there
pub record Site : Type 0 where
  pub edges : List ℕ
  pub triangles : List (List ℤ)
  pub vector : List ℕ

-- the labels of the corners whose counts are light, in the order of labels
pub record AreLightCorners (triples : List (List ℤ)) (w : List ℕ) (left_out : List ℤ)
    : Type 0 where
  pub placed : ArePlaced triples left_out
  pub light : (x : ℤ) → IsLabel triples x
      → (is_left_out left_out x ≡ true) ↔ IsLight w (corner_count triples w x)

-- the path from there to itself: the flips backwards, the word so many times, and the flips
abbrev pub path_of : List (List ℤ) → List Move → ℕ → Site → List Move
path_of triples moves power s = conjugated triples moves s.edges power

-- the first test that the track there fails
abbrev pub IsLineThere : List (List ℤ) → List Move → ℕ → Site → TrackLine → Type 0
IsLineThere triples moves power s line =
    (left_out : List ℤ) × AreLightCorners s.triangles s.vector left_out
    × IsTrackLine Further s.triangles (path_of triples moves power s) left_out line

-- it fails none, and this is the certificate
pub record PassesThere (triples : List (List ℤ)) (moves : List Move) (power : ℕ) (s : Site)
    (c : CarriedTrack) : Type 0 where
  pub left_out : List ℤ
  pub corners : AreLightCorners s.triangles s.vector left_out
  pub power_is : c.power ≡ power
  pub flips : c.flips ≡ s.edges
  pub passing : IsPassing Further s.triangles (path_of triples moves power s) left_out c

-- ---- repairs

-- the edge can be flipped, and its new number stays below the limit
pub record CanBeRepaired (s : Site) (edge : ℕ) : Type 0 where
  pub flippable : IsFlippableEdge s.triangles edge
  pub small : ¬ IsOver COORDINATE_LIMIT (flip_of s.triangles (pos edge)) s.vector

-- the same with one flip more, of the first switch that has no anchor
pub record IsRepaired (triples : List (List ℤ)) (moves : List Move) (power : ℕ) (s t : Site)
    : Type 0 where
  pub edge : ℕ
  pub line : IsLineThere triples moves power s (NoCommon edge)
  pub can : CanBeRepaired s edge
  pub edges : t.edges ≡ s.edges ++ (edge ∷ [])
  pub triangles : t.triangles ≡ flipped s.triangles (pos edge)
  pub vector : t.vector ≡ vector_after (flip_of s.triangles (pos edge)) s.vector

abbrev pub site_at : List Site → ℕ → Site
site_at sites i = slice_index_or sites i (record { edges = []; triangles = []; vector = [] })

abbrev pub last_site : List Site → Site
last_site sites = site_at sites (length sites - 1)

-- where the tracks of candidate n lie, one after another: at the stage of its depth of the cycle with
-- the vector w, and then repaired
pub record AreSitesOf (triples : List (List ℤ)) (moves : List Move) (w : List ℕ) (n : ℕ)
    (sites : List Site) : Type 0 where
  pub some : 0 < length sites
  pub few : length sites ≤ most_tracks
  pub stage : IsStage triples moves w (further_depth n) (site_at sites 0).edges
      (site_at sites 0).triangles (site_at sites 0).vector
  pub repaired : (i : ℕ) → i + 1 < length sites
      → IsRepaired triples moves (further_power n) (site_at sites i) (site_at sites (i + 1))

-- ---- candidates

-- the line of candidate n: that of its last track, which isn't repaired
pub record IsFurtherLine (triples : List (List ℤ)) (moves : List Move) (w : List ℕ) (n : ℕ)
    (line : TrackLine) : Type 0 where
  pub sites : List Site
  pub are_sites : AreSitesOf triples moves w n sites
  pub fails : IsLineThere triples moves (further_power n) (last_site sites) line
  pub ended : (edge : ℕ) → line ≡ NoCommon edge
      → (length sites ≡ most_tracks) ⊎ ¬ CanBeRepaired (last_site sites) edge

-- candidate n passes: its last track does
pub record PassesFurther (triples : List (List ℤ)) (moves : List Move) (w : List ℕ) (n : ℕ)
    (c : CarriedTrack) : Type 0 where
  pub sites : List Site
  pub are_sites : AreSitesOf triples moves w n sites
  pub passes : PassesThere triples moves (further_power n) (last_site sites) c

-- candidate n is the first that passes
pub record IsFirstFurther (triples : List (List ℤ)) (moves : List Move) (w : List ℕ) (n : ℕ)
    (c : CarriedTrack) : Type 0 where
  pub within : n < further_count
  pub passes : PassesFurther triples moves w n c
  pub before : (k : ℕ) → k < n → (line : TrackLine) × IsFurtherLine triples moves w k line

-- one line for each
pub record AreFurtherLines (triples : List (List ℤ)) (moves : List Move) (w : List ℕ)
    (log : List TrackLine) : Type 0 where
  pub one_line_each : length log ≡ further_count
  pub lines : (n : ℕ) (line : TrackLine) → n < length log
      → IsFurtherLine triples moves w n (slice_index_or log n line)
