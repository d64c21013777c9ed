use Rattle.std.proofs.Common.{refl, arith}
use Rattle.free_groupoid.proofs.Filling.{counted_more, counted_all}
use Rattle.free_groupoid.proofs.triangles.identity_triangles.Goals as goal

pub loop-t-init : goal.loop-t-init
loop-t-init c = record { room = refl; front = refl }

pub loop-t-preserved : goal.loop-t-preserved
loop-t-preserved c = counted_more _ _ _ c.loop-t.invariant c.requires c.loop-t-test.true

pub returns : goal.returns
returns c = counted_all _ _ _ c.loop-t.invariant (omega arith)
