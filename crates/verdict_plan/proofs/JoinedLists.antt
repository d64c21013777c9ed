-- The candidates within a budget: the first ones, and the further ones behind them.
use Rattle.std.proofs.Common.{◌≡◌, ◌<◌, ◌≤◌, ◌+◌, ◌++◌, ℕ, ℤ, List, [], length, inl, inr, sym, refl, arith}
use Rattle.std.proofs.lemmas.List.{append-nil}
use Rattle.tri_atlas.specs.Moves.{Move}
use Rattle.edge_coords.specs.declared.lines.CurveLine.{CurveLine}
use Rattle.multicurve_cert.specs.CurveAnswers.{AreAllFailing}
use Rattle.cycle_stages.specs.OpenCycles.{IsOpenCycle}
use Rattle.light_curves.specs.LightCurves.{AreLightLines, IsFirstLight}
use Rattle.cert_text.specs.Certificates.{CarriedTrack}
use Rattle.cert_text.specs.declared.lines.TrackLine.{TrackLine}
use Rattle.verdict_plan.specs.AllCandidates.{AreFailedCurves, AreFailedTracks, AreNoFurther, IsFoundCurve}
use Rattle.verdict_plan.specs.AllCandidates.{IsFoundTrack, further_budget}
use Rattle.verdict_plan.specs.FirstTracks.{AreNoTracks}
use Rattle.verdict_plan.specs.FurtherTracks.{AreFurtherLines, IsFirstFurther}

module _ (triples : List (List ℤ)) (moves : List Move) (budget : ℕ) where
  -- ---- curves

  module _ (first : List CurveLine) (fail : AreAllFailing triples moves budget first) where
    -- the first ones are no more than the budget
    pub curves_within : length first ≤ budget
    curves_within = let each = fail.one_line_each in omega arith

    -- these are all
    pub first_curves_alone : AreNoFurther triples budget → AreFailedCurves triples moves budget first
    first_curves_alone none = (first, [], sym (append-nil first), fail, inl (none, refl))

    module _ (w : List ℕ) (enough : further_budget ≤ budget) (opened : IsOpenCycle triples w) where
      -- the further ones fail too
      pub all_curves_fail : (further : List CurveLine) → AreLightLines triples moves w further
          → AreFailedCurves triples moves budget (first ++ further)
      all_curves_fail further lines =
          (first, further, refl, fail, inr (w, record { enough = enough; open_cycle = opened }, lines))

      -- a further one passes
      pub further_curve_passes : (n : ℕ) (numbers : List ℕ) → IsFirstLight triples moves w n numbers
          → IsFoundCurve triples moves budget (length first + n) numbers
      further_curve_passes n numbers h =
          inr (first, fail, (w, record { enough = enough; open_cycle = opened }, (n, refl, h)))

  -- ---- tracks

  module _ (first : List TrackLine) (fail : AreNoTracks triples moves budget first) where
    -- the first ones are no more than the budget
    pub tracks_within : length first ≤ budget
    tracks_within = let each = fail.one_line_each in omega arith

    -- with no further ones these are all
    pub tracks_alone : (further : List TrackLine) → AreNoFurther triples budget → further ≡ []
        → AreFailedTracks triples moves budget (first ++ further)
    tracks_alone further none empty = (first, further, refl, fail, inl (none, empty))

    module _ (w : List ℕ) (enough : further_budget ≤ budget) (opened : IsOpenCycle triples w) where
      -- the further ones fail too
      pub all_tracks_fail : (further : List TrackLine) → AreFurtherLines triples moves w further
          → AreFailedTracks triples moves budget (first ++ further)
      all_tracks_fail further lines =
          (first, further, refl, fail, inr (w, record { enough = enough; open_cycle = opened }, lines))

      -- a further one passes
      pub further_track_passes : (n : ℕ) (c : CarriedTrack) → IsFirstFurther triples moves w n c
          → IsFoundTrack triples moves budget (length first + n) c
      further_track_passes n c h =
          inr (first, fail, (w, record { enough = enough; open_cycle = opened }, (n, refl, h)))
