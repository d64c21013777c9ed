-- The line of a candidate, by its flips, left-out corners and power alone.
--
-- The flips of a stage lead to its triangulation, and its track leaves out the corners that no strand cuts off. So the
-- line of a candidate at the stage is the line for these flips and corners, and the other way round.
use Rattle.std.proofs.Common.{◌≡◌, ℕ, ℤ, List, Option, Some, IfSome, sym, subst}
use Rattle.tri_atlas.specs.Arena.{Arena, triangulation}
use Rattle.tri_atlas.specs.FlipPaths.{flipped_along}
use Rattle.tri_atlas.specs.Paths.{MovePath, moves_of}
use Rattle.train_track.specs.Branches.{TrainTrack}
use Rattle.cert_text.specs.declared.lines.TrackLine.{TrackLine}
use Rattle.verdict_plan.specs.TrackTests.{IsTrackLine}
use Rattle.verdict_plan.specs.declared.series.Series.TheVariants.{First}
use Rattle.verdict_plan.specs.inside.Known.{IsLineFor}
use Rattle.verdict_plan.specs.inside.Sites.{IsLineWith, IsTrackAt, corners_at, path_at}
use Rattle.cycle_stages.specs.KeptStages.{IsKept}
use Rattle.cycle_stages.specs.declared.stages.Stage.{Stage}

module _ (arena : Arena) (word : MovePath) (s : Stage) (kept : IsKept arena s) (track : TrainTrack)
    (at : IsTrackAt arena s track) (power : ℕ) (line : TrackLine) where
  abbrev base : List (List ℤ)
  base = triangulation arena 0

  pub line_here : IsLineFor base (moves_of arena word) s.edges.items track.left_out power line
      → IsLineWith arena word s power line
  line_here h =
      subst (λ (ts : List (List ℤ)). IsTrackLine First ts (path_at arena word s power) (corners_at arena s) line)
      (sym kept.leads)
      (subst (λ (out : List ℤ). IsTrackLine First (flipped_along base s.edges.items) (path_at arena word s power) out
      line) at.corners h)

  pub line_anywhere : IsLineWith arena word s power line
      → IsLineFor base (moves_of arena word) s.edges.items track.left_out power line
  line_anywhere h =
      subst (λ (out : List ℤ). IsTrackLine First (flipped_along base s.edges.items) (path_at arena word s power) out
      line) (sym at.corners)
      (subst (λ (ts : List (List ℤ)). IsTrackLine First ts (path_at arena word s power) (corners_at arena s) line)
      kept.leads h)

-- what is told of the value in a `Some`
pub some_told : {X : Type 0} {r : Option X} {x : X} (P : X → Type 0) → r ≡ Some x → IfSome r P → P x
some_told {X} {r} {x} P is h =
    let there : IfSome (Some x) P = subst (λ (o : Option X). IfSome o P) is h in there
