use Rattle.std.proofs.Common.{◌<◌, length, refl, arith}
use Rattle.ideal_tri.proofs.Walks.{reached_here}
use Rattle.ideal_tri.proofs.Components.{least_found}
use Rattle.ideal_tri.proofs.component.least_triangle.Goals as goal

pub returns-then-reached-s-clause-least : goal.returns-then-reached-s-clause-least
returns-then-reached-s-clause-least c =
    let below : c.loop-s.s < length c.args.tri.now = omega arith in
    least_found c.args.tri.now c.reached_from-reached.ensures.sound c.args.t c.loop-s.s c.requires below
    ((c.reached_from-reached.ensures.reached c.loop-s.s below).0 c.if-reached-s.true) c.loop-s.invariant

pub returns-clause-least : goal.returns-clause-least
returns-clause-least c =
    least_found c.args.tri.now c.reached_from-reached.ensures.sound c.args.t c.args.t c.requires c.requires
    (reached_here c.args.tri.now c.args.t c.args.t refl) (λ k b. c.loop-s.invariant k (omega arith))
