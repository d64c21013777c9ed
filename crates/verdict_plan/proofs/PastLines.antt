-- A candidate whose map passes the cap has the line that says so.
use Rattle.std.proofs.Common.{ℕ, sym, ap, subst, ◌∙◌, ℤ, List, arith}
use Rattle.tri_atlas.specs.Arena.{Arena, triangulation}
use Rattle.tri_atlas.specs.Paths.{MovePath}
use Rattle.train_track.specs.Branches.{TrainTrack}
use Rattle.train_track.specs.Tracks.{IsFilling}
use Rattle.cert_text.specs.declared.lines.TrackLine.{TrackLine}
use Rattle.cert_text.specs.declared.lines.TrackLine.TheVariants.{Cap}
use Rattle.cycle_stages.specs.KeptStages.{there}
use Rattle.cycle_stages.specs.declared.stages.Stage.{Stage}
use Rattle.verdict_plan.specs.inside.PastCap.{IsPastAt}
use Rattle.verdict_plan.specs.inside.Sites.{IsLineWith, IsTrackAt, corners_at}

pub past_line : (arena : Arena) (word : MovePath) (s : Stage) (power : ℕ) (track : TrainTrack)
    → IsTrackAt arena s track → IsPastAt arena word s power
    → (line : TrackLine) × IsLineWith arena word s power line
past_line arena word s power track at past =
    let (letters, made, first) = past power (omega arith) in
    let filling : IsFilling (there arena s) (corners_at arena s) =
    subst (IsFilling (there arena s)) at.corners
    (subst (λ (t : ℕ). IsFilling (triangulation arena t) track.left_out) at.tri at.here.on.filling) in
    (Cap letters, (filling, (made, first)))
