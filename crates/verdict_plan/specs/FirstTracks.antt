-- The first candidates for a carried train track: those of all cycles, in turn. The word's path runs
-- from the triangulation to itself, and these are its moves.
use Rattle.std.specs.Prelude.{◌≡◌, ◌<◌, ◌+◌, ◌*◌, ◌/◌, ◌%◌, ℕ, ℤ, List, length, min, slice_index_or}
use Rattle.tri_atlas.specs.Moves.{Move}
use Rattle.train_track.specs.Refusals.{free_corners}
use Rattle.multicurve_cert.specs.CurveAnswers.{vector_of}
use Rattle.multicurve_cert.specs.Cycles.{AreCycles}
use Rattle.cert_text.specs.Certificates.{CarriedTrack, track_seen}
use Rattle.cert_text.specs.PseudoAnosov.{IsPseudoAnosovCertificate, conjugated}
use Rattle.cert_text.specs.declared.lines.TrackLine.{TrackLine}
use Rattle.cycle_stages.specs.Stages.{IsStage}
use Rattle.verdict_plan.specs.TrackTests.{IsPassing, IsTrackLine}
use Rattle.verdict_plan.specs.declared.series.Series.TheVariants.{First}
use Rattle.verdict_plan.specs.declared.track_search.Tracks.{Tracks}
use Rattle.verdict_plan.specs.declared.track_search.Tracks.TheVariants.{Found, None}

-- candidate n, of C cycles, has the cycle n mod C; with q = n div C it has the power 1 + q mod 4 of
-- the word and the stage of depth q div 4
abbrev pub power_of : List (List ℤ) → ℕ → ℕ
power_of cycles n = 1 + (n / length cycles) % 4

abbrev pub depth_of : List (List ℤ) → ℕ → ℕ
depth_of cycles n = (n / length cycles) / 4

-- how many powers and depths there are for each cycle, and how many candidates within the budget
abbrev pub track_kinds : ℕ
track_kinds = 128

abbrev pub track_count : List (List ℤ) → ℕ → ℕ
track_count cycles budget = min budget (track_kinds * length cycles)

-- the stage of candidate n
abbrev pub IsStageAt : List (List ℤ) → List Move → List (List ℤ) → ℕ → List ℕ → List (List ℤ)
    → List ℕ → Type 0
IsStageAt triples moves cycles n edges there v =
    IsStage triples moves (vector_of triples cycles n) (depth_of cycles n) edges there v

-- candidate n passes: the track at its stage leaves out the corners that no strand of the vector cuts
-- off, and the certificate names the power, the flips and what the tests found
pub record PassesAt (triples : List (List ℤ)) (moves : List Move) (cycles : List (List ℤ)) (n : ℕ)
    (c : CarriedTrack) : Type 0 where
  pub there : List (List ℤ)
  pub vector : List ℕ
  pub stage : IsStageAt triples moves cycles n c.flips there vector
  pub power : c.power ≡ power_of cycles n
  pub passing : IsPassing First there (conjugated triples moves c.flips c.power)
      (free_corners there vector) c

-- the line of candidate n: the first test that it fails
pub record IsLineAt (triples : List (List ℤ)) (moves : List Move) (cycles : List (List ℤ)) (n : ℕ)
    (line : TrackLine) : Type 0 where
  pub edges : List ℕ
  pub there : List (List ℤ)
  pub vector : List ℕ
  pub stage : IsStageAt triples moves cycles n edges there vector
  pub fails : IsTrackLine First there (conjugated triples moves edges (power_of cycles n))
      (free_corners there vector) line

-- with these cycles, candidate `number` is the first within the budget that passes
pub record IsFirstTrack (triples : List (List ℤ)) (moves : List Move) (budget number : ℕ)
    (c : CarriedTrack) : Type 0 where
  pub cycles : List (List ℤ)
  pub are_cycles : AreCycles triples cycles
  pub within : number < track_count cycles budget
  pub passes : PassesAt triples moves cycles number c
  pub before : (n : ℕ) → n < number → (line : TrackLine) × IsLineAt triples moves cycles n line

-- one line for each candidate within the budget: the first test that it fails
pub record AreNoTracks (triples : List (List ℤ)) (moves : List Move) (budget : ℕ)
    (log : List TrackLine) : Type 0 where
  pub cycles : List (List ℤ)
  pub are_cycles : AreCycles triples cycles
  pub one_line_each : length log ≡ track_count cycles budget
  pub lines : (n : ℕ) (line : TrackLine) → n < length log
      → IsLineAt triples moves cycles n (slice_index_or log n line)

-- the certificate of what is found holds
abbrev pub HoldsWhereFound : List (List ℤ) → List Move → Tracks → Type 0
HoldsWhereFound triples moves (Found number pa) =
    IsPseudoAnosovCertificate triples moves (track_seen pa)
HoldsWhereFound triples moves (None log) = Unit {0}
