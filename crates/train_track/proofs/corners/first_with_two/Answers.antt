use Rattle.std.proofs.Common.{arith}
use Rattle.train_track.proofs.LeftOut.{single_from_none}
use Rattle.train_track.proofs.corners.first_with_two.Goals as goal

pub returns-clause-none : goal.returns-clause-none
returns-clause-none c =
    single_from_none c.args.tri.now c.args.left_out.now c.label_laws.ensures
    (c.surface_laws.ensures.triangles c.args.tri.now c.requires) c.loop-t.t (omega arith) c.loop-t.invariant
