use Rattle.std.proofs.Common.{subst}
use Rattle.std.specs.Prelude.{IfNone}
use Rattle.train_track.specs.Tracks.{IsOpenAtVertices}
use Rattle.train_track.proofs.Made.{track_in}
use Rattle.train_track.proofs.track.Track.of_corners.Goals as goal

pub branch_law-requires-clause-single : goal.branch_law-requires-clause-single
branch_law-requires-clause-single c = c.in_default.ensures.none

pub returns-clause-here : goal.returns-clause-here
returns-clause-here c =
    track_in c.args.atlas.now c.args.t c.tri-tri.result.now c.as_slice-corners.result.now c.args.left_out.items
    c.in_ok-switches.switches.items c.in_ok-branches.branches.items c.requires.tri c.tri-tri.ensures.value
    c.as_slice-corners.ensures.value c.requires.placed c.in_default.ensures.none
    (subst (λ o. IfNone o (IsOpenAtVertices c.tri-tri.result.now c.as_slice-corners.result.now)) c.in_default-2.is
    c.in_ok-v.ensures.none)
    c.in_ok-switches.ensures c.in_ok-branches.ensures.value c.branch_law.ensures.walks c.branch_law.ensures.list
