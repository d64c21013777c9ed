use Rattle.std.proofs.Common.{take}
use Rattle.edge_coords.proofs.Relabelled.{moved_all, small_moved}
use Rattle.edge_coords.proofs.moves.relabel.Goals as goal

pub returns-clause-moved : goal.returns-clause-moved
returns-clause-moved c =
    moved_all (take c.args.count c.args.images.now) c.args.numbers.now c.loop-k.numbers c.args.count c.loop-k.k
    c.requires.few
    c.told-numbers c.requires.relabelling c.loop-k-test.false c.loop-k.invariant

pub returns-clause-small : goal.returns-clause-small
returns-clause-small c =
    small_moved (take c.args.count c.args.images.now) c.args.numbers.now c.loop-k.numbers c.args.count c.loop-k.k
    c.requires.few
    c.told-numbers c.requires.relabelling c.loop-k-test.false c.loop-k.invariant c.requires.small
