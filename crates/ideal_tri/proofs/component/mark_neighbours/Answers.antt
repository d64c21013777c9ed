use Rattle.std.proofs.Common.{arith}
use Rattle.ideal_tri.proofs.Reaching.{AreAcross, are_across, neighbour_marked, neighbour_reached}
use Rattle.ideal_tri.proofs.component.mark_neighbours.Goals as goal

neighbours : (c : goal.After-across-3)
    → AreAcross c.args.tri.now c.args.t c.across.result c.across-2.result c.across-3.result
neighbours c =
    are_across c.args.tri.now c.requires.sound c.args.t c.across.result c.across-2.result c.across-3.result
    c.triple.result c.index-triple-0.result
    c.index-triple-1.result c.index-triple-2.result c.requires.triangle c.triple.ensures.triple
    c.across.ensures.triangle
    c.across-2.ensures.triangle c.across-3.ensures.triangle

pub returns-clause-marked : goal.returns-clause-marked
returns-clause-marked c =
    neighbour_marked c.args.tri.now c.args.reached.now c.args.t c.across.result c.across-2.result c.across-3.result
    c.requires.sound (neighbours c)
    (omega arith) (omega arith) (omega arith)

pub returns-clause-only : goal.returns-clause-only
returns-clause-only c =
    neighbour_reached c.args.tri.now c.args.reached.now c.args.t c.across.result c.across-2.result c.across-3.result
    c.requires.sound (neighbours c)
