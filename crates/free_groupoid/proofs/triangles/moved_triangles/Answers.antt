use Rattle.std.proofs.Common.{refl, arith}
use Rattle.ideal_tri.specs.Triangulations.{edge_count}
use Rattle.tri_atlas.specs.Moves.{triangle_image}
use Rattle.tri_atlas.specs.Steps.{move_of}
use Rattle.free_groupoid.proofs.Filling.{mapped_more, mapped_all}
use Rattle.free_groupoid.proofs.triangles.moved_triangles.Goals as goal

pub loop-k-init : goal.loop-k-init
loop-k-init c = record { room = refl; front = refl }

pub loop-k-preserved : goal.loop-k-preserved
loop-k-preserved c =
    mapped_more (triangle_image c.args.before.now c.args.after.now (move_of (edge_count c.args.before.now)
    c.args.step.now)) c.args.triangles.now _ _ _
    c.loop-k.invariant c.requires.room c.loop-k-test.true c.moved_triangle.ensures

pub returns : goal.returns
returns c =
    mapped_all (triangle_image c.args.before.now c.args.after.now (move_of (edge_count c.args.before.now)
    c.args.step.now)) c.args.triangles.now _ _
    c.loop-k.invariant (omega arith)
