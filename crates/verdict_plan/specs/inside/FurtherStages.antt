-- The further candidates, tried in order at the stages of one cycle.
use Rattle.std.specs.Prelude.{◌≡◌, ◌<◌, ◌≤◌, ℕ, ℤ, List, length, map, All, slice_index_or}
use Rattle.std.specs.Prelude.{Result, Ok, Err}
use Rattle.tri_atlas.specs.Arena.{Arena}
use Rattle.tri_atlas.specs.Moves.{Move}
use Rattle.cycle_stages.specs.KeptStages.{IsKept}
use Rattle.cycle_stages.specs.StageLists.{place_of}
use Rattle.cycle_stages.specs.Stages.{IsStage}
use Rattle.cycle_stages.specs.declared.stages.Stage.{Stage}
use Rattle.cert_text.specs.Certificates.{track_seen}
use Rattle.cert_text.specs.declared.carried_track.Pa.{Pa}
use Rattle.cert_text.specs.declared.lines.TrackLine.{TrackLine}
use Rattle.verdict_plan.specs.FurtherTracks.{Site, AreFurtherLines, IsFirstFurther, depths}
use Rattle.verdict_plan.specs.FurtherTracks.{further_count, further_depth, further_power, site_at}
use Rattle.verdict_plan.specs.inside.FurtherSites.{site_of, IsLineFrom, IsOutcomeFrom, PassesFrom}
use Rattle.verdict_plan.specs.declared.track_search.Tracks.{Tracks}
use Rattle.verdict_plan.specs.declared.track_search.Tracks.TheVariants.{Found, None}

-- ---- the stages

-- the stages are kept, and of few flips
pub record AreShortStages (arena : Arena) (stages : List Stage) : Type 0 where
  pub some : 0 < length stages
  pub kept : All (IsKept arena) stages
  pub short : All (λ s. length s.edges.items < depths) stages

-- where they are
abbrev pub sites_of : Arena → List Stage → List Site
sites_of arena stages = map (site_of arena) stages

-- where the first track of candidate n lies: at the last of the sites, where the flips end before
abbrev pub start_of : List Site → ℕ → Site
start_of sites n = site_at sites (place_of (length sites) (further_depth n))

-- it is the stage of the candidate's depth of the cycle with the vector w
abbrev pub AreStarts : List (List ℤ) → List Move → List ℕ → List Site → Type 0
AreStarts triples moves w sites =
    (n : ℕ) → IsStage triples moves w (further_depth n) (start_of sites n).edges
    (start_of sites n).triangles (start_of sites n).vector

-- ---- what the tests give

abbrev pub IsOutcomeOf : List (List ℤ) → List Move → List Site → ℕ → Result Pa TrackLine → Type 0
IsOutcomeOf triples moves sites n r =
    IsOutcomeFrom triples moves (further_power n) (start_of sites n) r

-- the first n candidates have these lines
pub record AreLinesFrom (triples : List (List ℤ)) (moves : List Move) (sites : List Site) (n : ℕ)
    (log : List TrackLine) : Type 0 where
  pub one_line_each : length log ≡ n
  pub lines : (k : ℕ) (line : TrackLine) → k < length log
      → IsLineFrom triples moves (further_power k) (start_of sites k) (slice_index_or log k line)

-- ---- the answer

-- the first that passes, or the line of each
abbrev pub IsFurtherAnswer : List (List ℤ) → List Move → List ℕ → Tracks → Type 0
IsFurtherAnswer triples moves w (Found number pa) =
    IsFirstFurther triples moves w number (track_seen pa)
IsFurtherAnswer triples moves w (None log) = AreFurtherLines triples moves w log.items
