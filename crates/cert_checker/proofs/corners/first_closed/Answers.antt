use Rattle.std.proofs.Common.{refl}
use Rattle.cert_checker.specs.TrackRules.{IsOpenAt}
use Rattle.cert_checker.proofs.ListsTogether.{pass_more}
use Rattle.cert_checker.proofs.corners.first_closed.Goals as goal

pub loop-v-preserved : goal.loop-v-preserved
loop-v-preserved c =
    pass_more (IsOpenAt c.args.tri.now c.args.corners.now) c.loop-v.v c.loop-v.invariant
    (c.if-not-is_open.ensures.0 refl)
