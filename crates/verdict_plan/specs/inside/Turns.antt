-- The cycles take turns: one candidate of each in a round.
use Rattle.std.specs.Prelude.{◌≡◌, ◌<◌, ◌≤◌, ◌+◌, ◌/◌, ◌%◌, ℕ, ℤ, List, length, min, slice_index_or}
use Rattle.std.specs.Prelude.{Result, Ok, Err, Option, Some, None}
use Rattle.tri_atlas.specs.Arena.{Arena}
use Rattle.tri_atlas.specs.Moves.{Move}
use Rattle.tri_atlas.specs.Paths.{MovePath}
use Rattle.cert_text.specs.Certificates.{CarriedTrack, track_seen}
use Rattle.cert_text.specs.declared.carried_track.Pa.{Pa}
use Rattle.cert_text.specs.declared.lines.TrackLine.{TrackLine}
use Rattle.verdict_plan.specs.FirstTracks.{IsLineAt}
use Rattle.verdict_plan.specs.inside.Sites.{IsLineWith, IsSite, IsStanding, AreSitesFrom}
use Rattle.verdict_plan.specs.inside.Sites.{corners_at, path_at}
use Rattle.verdict_plan.specs.inside.Trials.{IsSoundPass}
use Rattle.cycle_stages.specs.KeptStages.{there}
use Rattle.verdict_plan.specs.declared.series.Series.TheVariants.{First}
use Rattle.verdict_plan.specs.declared.sites.Site.{Site}
use Rattle.cycle_stages.specs.declared.stages.Stage.{Stage}
use Rattle.verdict_plan.specs.declared.trials.Trial.{Trial}

-- the site of some candidate
pub record IsSomeSite (arena : Arena) (word : MovePath) (site : Site) : Type 0 where
  pub vector : List ℕ
  pub depth : ℕ
  pub power : ℕ
  pub is : IsSite arena word vector depth power site

-- from a candidate of the round before to the one of this round
abbrev pub IsFollowing : Arena → Arena → MovePath → ℕ → Site → Site → Type 0
IsFollowing before after word round old new =
    (w : List ℕ) (last : ℕ) → last + 1 ≡ round → IsSite before word w (last / 4) (1 + last % 4) old
    → IsSite after word w (round / 4) (1 + round % 4) new

-- those of the last candidates before candidate n, one for each cycle but its own
pub record AreOtherSites (arena : Arena) (word : MovePath) (cycles : List (List ℤ)) (n : ℕ)
    (sites : List Site) : Type 0 where
  pub first : ℕ
  pub from : AreSitesFrom arena word cycles first sites
  pub up_to : first + length sites ≡ n
  pub one_each : length sites + 1 ≡ min (n + 1) (length cycles)

-- the candidate with this power passes, with this certificate
pub record IsPassAt (arena : Arena) (word : MovePath) (s : Stage) (power : ℕ) (c : CarriedTrack)
    : Type 0 where
  pub sound : IsSoundPass First (there arena s) (path_at arena word s power) (corners_at arena s) c
  pub has_power : c.power ≡ power
  pub has_flips : c.flips ≡ s.edges.items

-- what its tests give
abbrev pub IsOutcomeAt : Arena → MovePath → Stage → ℕ → Result Pa TrackLine → Type 0
IsOutcomeAt arena word s power (Ok pa) = IsPassAt arena word s power (track_seen pa)
IsOutcomeAt arena word s power (Err line) = IsLineWith arena word s power line

-- what is told of it: of one that fails, its line, or only that it has one
abbrev pub IsToldAt : Arena → MovePath → Stage → ℕ → Result Pa (Option TrackLine) → Type 0
IsToldAt arena word s power (Ok pa) = IsPassAt arena word s power (track_seen pa)
IsToldAt arena word s power (Err (Some line)) = IsLineWith arena word s power line
IsToldAt arena word s power (Err None) = (line : TrackLine) × IsLineWith arena word s power line

-- its line, where it fails
abbrev pub IsTold : Result Pa (Option TrackLine) → Type 0
IsTold (Ok pa) = Unit {0}
IsTold (Err (Some line)) = Unit {0}
IsTold (Err None) = ⊥

-- the candidate with this power at the stage was tried
pub record IsTrial (arena : Arena) (word : MovePath) (s : Stage) (power : ℕ) (trial : Trial)
    : Type 0 where
  pub stage : trial.site.stage ≡ s
  pub standing : IsStanding arena word s power trial.site.standing
  pub outcome : IsToldAt arena word s power trial.outcome

-- the first n candidates have these lines
pub record AreLines (triples : List (List ℤ)) (moves : List Move) (cycles : List (List ℤ)) (n : ℕ)
    (log : List TrackLine) : Type 0 where
  pub one_line_each : length log ≡ n
  pub lines : (k : ℕ) (line : TrackLine) → k < length log
      → IsLineAt triples moves cycles k (slice_index_or log k line)

-- the first n candidates have some lines, and the log those of them that were looked for
pub record AreSomeLines (triples : List (List ℤ)) (moves : List Move) (cycles : List (List ℤ))
    (n : ℕ) (log : List TrackLine) : Type 0 where
  pub lines : List TrackLine
  pub are : AreLines triples moves cycles n lines
  pub few : length log ≤ n
  pub whole : length log ≡ n → log ≡ lines
