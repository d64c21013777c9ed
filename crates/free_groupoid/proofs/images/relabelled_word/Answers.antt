use Rattle.std.proofs.Common.{arith}
use Rattle.ideal_tri.specs.declared.tri.TheConstants.{EDGES}
use Rattle.free_groupoid.proofs.Rewriting.{moved_none, moved_reduced, moved_more, moved_all}
use Rattle.free_groupoid.proofs.images.relabelled_word.Goals as goal

pub loop-x-init : goal.loop-x-init
loop-x-init c = moved_none _ _ _ c.in_ok-moved.ensures.items

pub push_reduced-requires : goal.push_reduced-requires
push_reduced-requires c =
    moved_reduced c.word_laws.ensures.reduction _ _ _ _ EDGES c.loop-x.invariant c.requires

pub loop-x-preserved : goal.loop-x-preserved
loop-x-preserved c =
    moved_more c.word_laws.ensures.reduction _ _ _ _ _ _ _ c.loop-x.invariant c.loop-x-test.true c.x-item.is
    c.in_ok-push_reduced.ensures.value c.relabelled.ensures

pub returns : goal.returns
returns c = λ n below. moved_all _ _ _ _ n c.loop-x.invariant (omega arith) below
