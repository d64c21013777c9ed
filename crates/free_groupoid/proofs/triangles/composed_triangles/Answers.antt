use Rattle.std.proofs.Common.{ℕ, refl, arith, get_or}
use Rattle.free_groupoid.proofs.Filling.{mapped_more, mapped_all}
use Rattle.free_groupoid.proofs.triangles.composed_triangles.Goals as goal

pub loop-k-init : goal.loop-k-init
loop-k-init c = record { room = refl; front = refl }

pub loop-k-preserved : goal.loop-k-preserved
loop-k-preserved c =
    mapped_more (λ (t : ℕ). get_or c.args.second.now t 0) c.args.first.now _ _ _ c.loop-k.invariant c.requires.room
    c.loop-k-test.true refl

pub returns : goal.returns
returns c = mapped_all (λ (t : ℕ). get_or c.args.second.now t 0) c.args.first.now _ _ c.loop-k.invariant (omega arith)
