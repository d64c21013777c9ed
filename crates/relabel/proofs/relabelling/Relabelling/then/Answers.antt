use Rattle.std.proofs.Common.{arith, ◌≡◌, ◌∙◌, sym, subst, map, take}
use Rattle.ideal_tri.specs.Relabellings.{IsBijection, image_of}
use Rattle.relabel.proofs.Slots.{through_made}
use Rattle.relabel.proofs.relabelling.Relabelling.then.Goals as goal

pub from_images-requires-clause-bijection : goal.from_images-requires-clause-bijection
from_images-requires-clause-bijection c =
    let made : take c.edges.result c.loop-edge.images ≡ map (image_of c.args.next.now) c.args.self.now =
    through_made c.args.self.now c.args.next.now c.loop-edge.images c.edges.result (omega arith) (omega arith)
    (λ d below. c.loop-edge.invariant.made d (omega arith)) in
    subst IsBijection (sym made)
    (c.bijection_laws.ensures.composed c.args.self.now c.args.next.now c.edges-edges.ensures.bijection
    c.edges.ensures.bijection
    c.requires)

pub returns : goal.returns
returns c =
    c.from_images.ensures
    ∙ through_made c.args.self.now c.args.next.now c.loop-edge.images c.edges.result (omega arith) (omega arith)
    (λ d below. c.loop-edge.invariant.made d (omega arith))
