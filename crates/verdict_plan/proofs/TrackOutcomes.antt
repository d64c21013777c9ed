-- What the tests of a further candidate give.
--
-- The flips of a stage backwards, the word so many times and the flips again lead from the triangulation of the stage
-- to itself, and do what the path of the candidate does. So what the tests find of the track and this path is found of
-- the candidate. The flips of the certificate are those of the stage, which lead to its triangulation, so a certificate
-- that passes is one of the whole word.
use Rattle.std.proofs.Common.{◌≡◌, ◌<◌, ◌≤◌, ℕ, ℤ, List, length}
use Rattle.std.proofs.Common.{Result, Ok, Err, IfOk, IfErr, sym, ◌∙◌, ap, subst}
use Rattle.tri_atlas.specs.Arena.{Arena, triangulation}
use Rattle.tri_atlas.specs.FlipPaths.{CanBeFlipped, flipped_along}
use Rattle.tri_atlas.specs.Moves.{Move}
use Rattle.tri_atlas.specs.Paths.{MovePath, moves_of}
use Rattle.train_track.specs.Branches.{TrainTrack}
use Rattle.cycle_stages.specs.KeptStages.{there, IsKept}
use Rattle.cycle_stages.specs.declared.stages.Stage.{Stage}
use Rattle.cert_text.specs.Certificates.{CarriedTrack, track_seen}
use Rattle.cert_text.specs.Limits.{flip_limit, power_limit}
use Rattle.cert_text.specs.PseudoAnosov.{IsPseudoAnosovCertificate, conjugated, track_path, track_triangles}
use Rattle.cert_text.specs.declared.carried_track.Pa.{Pa}
use Rattle.cert_text.specs.declared.lines.TrackLine.{TrackLine}
use Rattle.verdict_plan.specs.TrackTests.{IsTrackLine}
use Rattle.verdict_plan.specs.inside.FurtherSites.{IsLightTrack, IsPathRound}
use Rattle.verdict_plan.specs.inside.FurtherSites.{IsOutcomeThere, site_of}
use Rattle.verdict_plan.specs.inside.Trials.{IsSoundPass, PassLaw}
use Rattle.verdict_plan.specs.declared.series.Series.TheVariants.{Further}

module _ (arena : Arena) (word : MovePath) (s : Stage) (power : ℕ) (kept : IsKept arena s) (track : TrainTrack)
    (at : IsLightTrack arena s.coords track) (path : MovePath) (along : IsPathRound arena word s power path) where
  abbrev base : List (List ℤ)
  base = triangulation arena 0

  abbrev moves : List Move
  moves = moves_of arena word

  -- what is found of the track and the path is found of the candidate
  found_of : (P : List (List ℤ) → List Move → Type 0)
      → P (triangulation arena track.tri) (moves_of arena path)
      → P (there arena s) (conjugated base moves s.edges.items power)
  found_of P g =
      subst (P (there arena s)) along.moves
      (subst (λ (t : ℕ). P (triangulation arena t) (moves_of arena path)) at.tri g)

  -- and of what the certificate names
  found_by : (P : List (List ℤ) → List Move → Type 0) (c : CarriedTrack) → c.power ≡ power
      → c.flips ≡ s.edges.items → P (there arena s) (conjugated base moves s.edges.items power)
      → P (track_triangles base c) (track_path base moves c)
  found_by P c power_is flips g =
      subst (λ (es : List ℕ). P (flipped_along base es) (conjugated base moves es c.power)) (sym flips)
      (subst (λ (n : ℕ). P (flipped_along base s.edges.items) (conjugated base moves s.edges.items n)) (sym power_is)
      (subst (λ (ts : List (List ℤ)). P ts (conjugated base moves s.edges.items power)) kept.leads g))

  module _ (law : PassLaw) (some : 0 < power) (few : power ≤ power_limit) (short : length s.edges.items ≤ flip_limit)
    where
      holds : (c : CarriedTrack) → c.power ≡ power → c.flips ≡ s.edges.items
          → IsSoundPass Further (there arena s) (conjugated base moves s.edges.items power) track.left_out c
          → IsPseudoAnosovCertificate base moves c
      holds c power_is flips sound =
          law Further base moves track.left_out c
          (subst (λ (n : ℕ). 0 < n) (sym power_is) some)
          (subst (λ (n : ℕ). n ≤ power_limit) (sym power_is) few)
          (subst (λ (es : List ℕ). length es ≤ flip_limit) (sym flips) short)
          (subst (CanBeFlipped base) (sym flips) kept.flippable)
          (found_by (λ ts ms. IsSoundPass Further ts ms track.left_out c) c power_is flips sound)

      pub outcome_there : {E : Type 0} (r : Result (Result Pa TrackLine) E)
          → IfOk r (λ a. IfOk a (λ p. IsSoundPass Further (triangulation arena track.tri) (moves_of arena path)
          track.left_out (track_seen p)))
          → IfOk r (λ a. IfOk a (λ p. p.power ≡ power))
          → IfOk r (λ a. IfOk a (λ p. p.flips.items ≡ s.edges.items))
          → IfOk r (λ a. IfErr a (IsTrackLine Further (triangulation arena track.tri) (moves_of arena path) track.left_out))
          → IfOk r (IsOutcomeThere base moves power (site_of arena s))
      outcome_there (Ok (Ok pa)) passes power_is flips line =
          let sound : IsSoundPass Further (there arena s) (conjugated base moves s.edges.items power) track.left_out
          (track_seen pa) =
          found_of (λ ts ms. IsSoundPass Further ts ms track.left_out (track_seen pa)) passes in (
            record {
              left_out = track.left_out;
              corners = at.corners;
              power_is = power_is;
              flips = flips;
              passing = sound.passing;
            },
            holds (track_seen pa) power_is flips sound,
          )
      outcome_there (Ok (Err l)) passes power_is flips line = (
        track.left_out,
        at.corners,
        found_of (λ ts ms. IsTrackLine Further ts ms track.left_out l) line,
      )
      outcome_there (Err e) passes power_is flips line = tt
