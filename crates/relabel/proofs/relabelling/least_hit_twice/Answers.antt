use Rattle.std.proofs.Common.{arith}
use Rattle.relabel.proofs.Acceptance.{hits_below_more, hits_everywhere}
use Rattle.relabel.proofs.relabelling.least_hit_twice.Goals as goal

pub loop-edge-preserved : goal.loop-edge-preserved
loop-edge-preserved c = hits_below_more c.args.list.now c.loop-edge.edge c.loop-edge.invariant (omega arith)

pub returns-clause-none : goal.returns-clause-none
returns-clause-none c =
    hits_everywhere c.hit_laws.ensures c.args.list.now c.args.edges c.loop-edge.edge
    (omega arith) c.requires c.loop-edge.invariant
