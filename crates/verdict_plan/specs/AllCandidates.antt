-- All candidates within a budget: the first ones, and where the budget is great enough the further
-- ones behind them.
use Rattle.std.specs.Prelude.{◌≡◌, ◌⊎◌, ◌<◌, ◌≤◌, ◌+◌, ◌++◌, ℕ, ℤ, List, [], length}
use Rattle.tri_atlas.specs.Moves.{Move}
use Rattle.edge_coords.specs.declared.lines.CurveLine.{CurveLine}
use Rattle.multicurve_cert.specs.CurveAnswers.{AreAllFailing, IsFirstPassing}
use Rattle.multicurve_cert.specs.declared.curve_search.Curves.{Curves}
use Rattle.multicurve_cert.specs.declared.curve_search.Curves.TheVariants.{Found as FoundCurve, None as NoCurve}
use Rattle.cycle_stages.specs.OpenCycles.{HasNoOpenCycle, IsOpenCycle}
use Rattle.light_curves.specs.LightCurves.{AreLightLines, IsFirstLight}
use Rattle.cert_text.specs.Certificates.{CarriedTrack, track_seen}
use Rattle.cert_text.specs.declared.lines.TrackLine.{TrackLine}
use Rattle.verdict_plan.specs.FirstTracks.{AreNoTracks, IsFirstTrack}
use Rattle.verdict_plan.specs.FurtherTracks.{AreFurtherLines, IsFirstFurther}
use Rattle.verdict_plan.specs.declared.track_search.Tracks.{Tracks}
use Rattle.verdict_plan.specs.declared.track_search.Tracks.TheVariants.{Found, None}

-- ---- whether further ones are tried

-- from this budget on
abbrev pub further_budget : ℕ
further_budget = 256

-- they are, and are made of the cycle with the vector w: the first one that is nonperipheral
pub record AreFurther (triples : List (List ℤ)) (budget : ℕ) (w : List ℕ) : Type 0 where
  pub enough : further_budget ≤ budget
  pub open_cycle : IsOpenCycle triples w

-- there are none
abbrev pub AreNoFurther : List (List ℤ) → ℕ → Type 0
AreNoFurther triples budget = (budget < further_budget) ⊎ HasNoOpenCycle triples

-- ---- curves

-- one line for each candidate for a fixed multicurve, the further ones behind the first ones
abbrev pub AreFailedCurves : List (List ℤ) → List Move → ℕ → List CurveLine → Type 0
AreFailedCurves triples moves budget log =
    (first : List CurveLine) × (further : List CurveLine) × (log ≡ first ++ further)
    × AreAllFailing triples moves budget first
    × ((AreNoFurther triples budget × (further ≡ []))
    ⊎ ((w : List ℕ) × AreFurther triples budget w × AreLightLines triples moves w further))

-- candidate `number` is the first that passes
abbrev pub IsFoundCurve : List (List ℤ) → List Move → ℕ → ℕ → List ℕ → Type 0
IsFoundCurve triples moves budget number numbers =
    IsFirstPassing triples moves budget number numbers
    ⊎ ((first : List CurveLine) × AreAllFailing triples moves budget first
    × ((w : List ℕ) × AreFurther triples budget w
    × ((n : ℕ) × (number ≡ length first + n) × IsFirstLight triples moves w n numbers)))

-- ---- tracks

abbrev pub AreFailedTracks : List (List ℤ) → List Move → ℕ → List TrackLine → Type 0
AreFailedTracks triples moves budget log =
    (first : List TrackLine) × (further : List TrackLine) × (log ≡ first ++ further)
    × AreNoTracks triples moves budget first
    × ((AreNoFurther triples budget × (further ≡ []))
    ⊎ ((w : List ℕ) × AreFurther triples budget w × AreFurtherLines triples moves w further))

abbrev pub IsFoundTrack : List (List ℤ) → List Move → ℕ → ℕ → CarriedTrack → Type 0
IsFoundTrack triples moves budget number c =
    IsFirstTrack triples moves budget number c
    ⊎ ((first : List TrackLine) × AreNoTracks triples moves budget first
    × ((w : List ℕ) × AreFurther triples budget w
    × ((n : ℕ) × (number ≡ length first + n) × IsFirstFurther triples moves w n c)))

-- ---- answers

-- the answer of the search for a curve
abbrev pub IsAllCurvesAnswer : List (List ℤ) → List Move → ℕ → Curves → Type 0
IsAllCurvesAnswer triples moves budget (FoundCurve number coords) =
    IsFoundCurve triples moves budget number coords.numbers
IsAllCurvesAnswer triples moves budget (NoCurve log) = AreFailedCurves triples moves budget log.items

-- the answer of the search for a track
abbrev pub IsTracksAnswer : List (List ℤ) → List Move → ℕ → Tracks → Type 0
IsTracksAnswer triples moves budget (Found number pa) =
    IsFoundTrack triples moves budget number (track_seen pa)
IsTracksAnswer triples moves budget (None log) = AreFailedTracks triples moves budget log.items
