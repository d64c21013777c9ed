-- Where the candidates of a cycle look, and what is kept of them. The word's path runs from the
-- base to the base.
use Rattle.std.specs.Prelude.{◌≡◌, ◌≤◌, ◌+◌, ◌++◌, ℕ, ℤ, List, [], ◌∷◌, length, min}
use Rattle.std.specs.List.{repeat}
use Rattle.tri_atlas.specs.Arena.{Arena, triangulation}
use Rattle.tri_atlas.specs.Moves.{Move, back_along}
use Rattle.tri_atlas.specs.Paths.{MovePath, moves_of}
use Rattle.train_track.specs.Branches.{TrainTrack, IsTrackIn}
use Rattle.train_track.specs.Refusals.{free_corners}
use Rattle.multicurve_cert.specs.CurveAnswers.{vector_of}
use Rattle.cert_text.specs.PseudoAnosov.{conjugated}
use Rattle.cert_text.specs.declared.lines.TrackLine.{TrackLine}
use Rattle.cert_text.specs.declared.lines.TrackLine.TheVariants.{Cap}
use Rattle.verdict_plan.specs.FirstTracks.{depth_of, power_of}
use Rattle.verdict_plan.specs.TrackTests.{IsTrackLine}
use Rattle.cycle_stages.specs.KeptStages.{there, IsKept, IsStageIn}
use Rattle.verdict_plan.specs.inside.Ways.{IsWay}
use Rattle.verdict_plan.specs.declared.progress.Progress.{Progress}
use Rattle.verdict_plan.specs.declared.progress.Progress.TheVariants.{Taken, Past}
use Rattle.verdict_plan.specs.declared.series.Series.TheVariants.{First}
use Rattle.verdict_plan.specs.declared.sites.Site.{Site}
use Rattle.verdict_plan.specs.declared.sites.Standing.{Standing}
use Rattle.verdict_plan.specs.declared.sites.Standing.TheVariants.{Failed, Open}
use Rattle.cycle_stages.specs.declared.stages.Stage.{Stage}
use Rattle.verdict_plan.specs.declared.ways.Way.{Way}

-- ---- one stage

-- the corners that no strand cuts off
abbrev pub corners_at : Arena → Stage → List ℤ
corners_at arena s = free_corners (there arena s) s.coords.numbers

-- the path of the candidate with this power
abbrev pub path_at : Arena → MovePath → Stage → ℕ → List Move
path_at arena word s power =
    conjugated (triangulation arena 0) (moves_of arena word) s.edges.items power

-- the candidate with this power has this line
abbrev pub IsLineWith : Arena → MovePath → Stage → ℕ → TrackLine → Type 0
IsLineWith arena word s power line =
    IsTrackLine First (there arena s) (path_at arena word s power) (corners_at arena s) line

-- the track of the stage
pub record IsTrackAt (arena : Arena) (s : Stage) (track : TrainTrack) : Type 0 where
  pub here : IsTrackIn arena track
  pub tri : track.tri ≡ s.coords.tri
  pub corners : track.left_out ≡ corners_at arena s

-- the flips backwards, and the word so many times
pub record IsBackWay (arena : Arena) (word : MovePath) (s : Stage) (times : ℕ) (way : Way)
    : Type 0 where
  pub kept : IsWay arena way
  pub start : way.path.start ≡ s.coords.tri
  pub end : way.path.end ≡ 0
  pub moves : moves_of arena way.path
      ≡ back_along (moves_of arena s.path) ++ repeat times (moves_of arena word)

-- all candidates with so high a power pass the cap, with so many letters
abbrev pub IsPastFrom : Arena → MovePath → Stage → ℕ → ℕ → Type 0
IsPastFrom arena word s least letters =
    (power : ℕ) → least ≤ power → IsLineWith arena word s power (Cap letters)

-- the word is taken no more often than the power says
abbrev pub IsProgress : Arena → MovePath → Stage → ℕ → Progress → Type 0
IsProgress arena word s power (Taken way times) = (times ≤ power) × IsBackWay arena word s times way
IsProgress arena word s power (Past letters) = IsPastFrom arena word s power letters

-- or as often
abbrev pub IsProgressAt : Arena → MovePath → Stage → ℕ → Progress → Type 0
IsProgressAt arena word s power (Taken way times) =
    (times ≡ power) × IsBackWay arena word s power way
IsProgressAt arena word s power (Past letters) = IsPastFrom arena word s power letters

-- before the candidate with this power: the track and how often the word is taken, or the line of all
-- candidates
abbrev pub IsStanding : Arena → MovePath → Stage → ℕ → Standing → Type 0
IsStanding arena word s power (Failed line) = (any : ℕ) → IsLineWith arena word s any line
IsStanding arena word s power (Open track progress) =
    IsTrackAt arena s track × IsProgress arena word s power progress

-- ---- one cycle

-- as it is for the candidate of this power and depth of the cycle with the vector w
pub record IsSite (arena : Arena) (word : MovePath) (w : List ℕ) (depth power : ℕ) (site : Site)
    : Type 0 where
  pub kept : IsKept arena site.stage
  pub stage : IsStageIn arena (triangulation arena 0) (moves_of arena word) w depth site.stage
  pub standing : IsStanding arena word site.stage power site.standing

-- whatever stage it is, this is its first site
abbrev pub IsFirstPower : Arena → MovePath → Stage → Site → Type 0
IsFirstPower arena word s site =
    (w : List ℕ) (depth : ℕ)
    → IsStageIn arena (triangulation arena 0) (moves_of arena word) w depth s
    → IsSite arena word w depth 1 site

-- whatever site it was, it serves for the next candidate of its stage too
abbrev pub IsNextPower : Arena → MovePath → Site → Site → Type 0
IsNextPower arena word old new =
    (w : List ℕ) (depth power : ℕ) → IsSite arena word w depth power old
    → IsSite arena word w depth (power + 1) new

-- or the first of the next stage
abbrev pub IsNextDepth : Arena → Arena → MovePath → Site → Site → Type 0
IsNextDepth before after word old new =
    (w : List ℕ) (depth power : ℕ) → IsSite before word w depth power old
    → IsSite after word w (depth + 1) 1 new

-- for candidate n
abbrev pub IsSiteOf : Arena → MovePath → List (List ℤ) → ℕ → Site → Type 0
IsSiteOf arena word cycles n site =
    IsSite arena word (vector_of (triangulation arena 0) cycles n) (depth_of cycles n)
    (power_of cycles n) site

-- ---- all cycles

-- for candidate n and those that follow it
abbrev pub AreSitesFrom : Arena → MovePath → List (List ℤ) → ℕ → List Site → Type 0
AreSitesFrom arena word cycles n [] = Unit {0}
AreSitesFrom arena word cycles n (site ∷ sites) =
    IsSiteOf arena word cycles n site × AreSitesFrom arena word cycles (n + 1) sites

-- for the last candidates before candidate n, one for each cycle
pub record AreSites (arena : Arena) (word : MovePath) (cycles : List (List ℤ)) (n : ℕ)
    (sites : List Site) : Type 0 where
  pub first : ℕ
  pub from : AreSitesFrom arena word cycles first sites
  pub up_to : first + length sites ≡ n
  pub one_each : length sites ≡ min n (length cycles)
