-- One candidate of the further ones: its first track, and those that are repaired. The word's path runs
-- from the triangulation to itself, and these are its moves.
use Rattle.std.specs.Prelude.{◌≡◌, ◌⊎◌, ◌<◌, ◌+◌, ◌++◌, ℕ, ℤ, List, length, Bool, true, false}
use Rattle.std.specs.Prelude.{Result, Ok, Err}
use Rattle.std.specs.List.{repeat}
use Rattle.tri_atlas.specs.Arena.{Arena, triangulation}
use Rattle.tri_atlas.specs.Moves.{Move, back_along}
use Rattle.tri_atlas.specs.Paths.{MovePath, IsPathIn, moves_of}
use Rattle.edge_coords.specs.Coordinates.{Coordinates}
use Rattle.train_track.specs.Branches.{TrainTrack, IsTrackIn}
use Rattle.cycle_stages.specs.KeptStages.{there}
use Rattle.cycle_stages.specs.declared.stages.Stage.{Stage}
use Rattle.cert_text.specs.Certificates.{CarriedTrack, track_seen}
use Rattle.cert_text.specs.PseudoAnosov.{IsPseudoAnosovCertificate, conjugated}
use Rattle.cert_text.specs.declared.carried_track.Pa.{Pa}
use Rattle.cert_text.specs.declared.lines.TrackLine.{TrackLine}
use Rattle.cert_text.specs.declared.lines.TrackLine.TheVariants.{NoCommon}
use Rattle.verdict_plan.specs.FurtherTracks.{Site, AreLightCorners, CanBeRepaired, IsLineThere}
use Rattle.verdict_plan.specs.FurtherTracks.{IsRepaired, PassesThere, most_tracks, site_at}
use Rattle.verdict_plan.specs.TrackTests.{IsTrackLine}
use Rattle.verdict_plan.specs.declared.series.Series.TheVariants.{Further}

-- ---- a track

-- the track that leaves out the corners with light counts
pub record IsLightTrack (arena : Arena) (w : Coordinates) (track : TrainTrack) : Type 0 where
  pub here : IsTrackIn arena track
  pub tri : track.tri ≡ w.tri
  pub corners : AreLightCorners (triangulation arena w.tri) w.numbers track.left_out

-- there is none that fills: whatever the path, this is the line
pub record HasNoLightTrack (triples : List (List ℤ)) (w : List ℕ) (line : TrackLine) : Type 0 where
  pub left_out : List ℤ
  pub corners : AreLightCorners triples w left_out
  pub fails : (path : List Move) → IsTrackLine Further triples path left_out line

-- ---- its path

-- the flips backwards and the word so many times
pub record IsPathBack (arena : Arena) (word : MovePath) (s : Stage) (times : ℕ) (path : MovePath)
    : Type 0 where
  pub leads : IsPathIn arena path
  pub start : path.start ≡ s.coords.tri
  pub end : path.end ≡ 0
  pub moves : moves_of arena path
      ≡ back_along (moves_of arena s.path) ++ repeat times (moves_of arena word)

-- and the flips again
pub record IsPathRound (arena : Arena) (word : MovePath) (s : Stage) (power : ℕ) (path : MovePath)
    : Type 0 where
  pub leads : IsPathIn arena path
  pub start : path.start ≡ s.coords.tri
  pub end : path.end ≡ s.coords.tri
  pub moves : moves_of arena path
      ≡ conjugated (triangulation arena 0) (moves_of arena word) s.edges.items power

-- ---- what its tests give

-- where a stage is
abbrev pub site_of : Arena → Stage → Site
site_of arena s = record {
  edges = s.edges.items;
  triangles = there arena s;
  vector = s.coords.numbers;
}

-- the certificate of the track there holds, or this is its line
abbrev pub IsOutcomeThere : List (List ℤ) → List Move → ℕ → Site → Result Pa TrackLine → Type 0
IsOutcomeThere triples moves power s (Ok pa) =
    PassesThere triples moves power s (track_seen pa)
    × IsPseudoAnosovCertificate triples moves (track_seen pa)
IsOutcomeThere triples moves power s (Err line) = IsLineThere triples moves power s line

-- ---- repairs

-- the line names a switch without an anchor, whose edge can be flipped
abbrev pub CallsForRepair : Site → TrackLine → Type 0
CallsForRepair s line = (edge : ℕ) × (line ≡ NoCommon edge) × CanBeRepaired s edge

-- after so many repairs the track lies here
pub record IsReached (triples : List (List ℤ)) (moves : List Move) (power : ℕ) (first : Site)
    (repairs : ℕ) (last : Site) : Type 0 where
  pub sites : List Site
  pub as_many : length sites ≡ repairs + 1
  pub from : site_at sites 0 ≡ first
  pub to : site_at sites repairs ≡ last
  pub repaired : (i : ℕ) → i + 1 < length sites
      → IsRepaired triples moves power (site_at sites i) (site_at sites (i + 1))

-- it was repaired; or the line doesn't call for it
abbrev pub HasRepaired : Bool → List (List ℤ) → List Move → ℕ → Site → TrackLine → Site → Type 0
HasRepaired true triples moves power s line t = IsRepaired triples moves power s t
HasRepaired false triples moves power s line t = ¬ CallsForRepair s line

-- ---- what the tests of the candidate give

-- the last track has this line, and isn't repaired
pub record IsLineFrom (triples : List (List ℤ)) (moves : List Move) (power : ℕ) (first : Site)
    (line : TrackLine) : Type 0 where
  pub repairs : ℕ
  pub last : Site
  pub few : repairs < most_tracks
  pub reached : IsReached triples moves power first repairs last
  pub fails : IsLineThere triples moves power last line
  pub ended : (repairs + 1 ≡ most_tracks) ⊎ ¬ CallsForRepair last line

-- the last track passes, and the certificate holds
pub record PassesFrom (triples : List (List ℤ)) (moves : List Move) (power : ℕ) (first : Site)
    (c : CarriedTrack) : Type 0 where
  pub repairs : ℕ
  pub last : Site
  pub few : repairs < most_tracks
  pub reached : IsReached triples moves power first repairs last
  pub passes : PassesThere triples moves power last c
  pub holds : IsPseudoAnosovCertificate triples moves c

abbrev pub IsOutcomeFrom : List (List ℤ) → List Move → ℕ → Site → Result Pa TrackLine → Type 0
IsOutcomeFrom triples moves power first (Ok pa) =
    PassesFrom triples moves power first (track_seen pa)
IsOutcomeFrom triples moves power first (Err line) = IsLineFrom triples moves power first line
