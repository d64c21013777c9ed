use Rattle.std.proofs.Common.{rules}
use Rattle.std.specs.Vec.Iter.{into_iter_items}
use Rattle.free_groupoid.proofs.TestedWalks.{first_walk, word_next, walk_more}
use Rattle.free_groupoid.proofs.test_list.test_walks.Goals as goal

pub loop-letters-init : goal.loop-letters-init
loop-letters-init c = record {
  can_next = tt;
  is_finite = tt;
  walks = first_walk _ _ _ c.new-walks.ensures.items (search rules) (c.inner_laws.ensures.test.loops c.args.tri.now
      c.triangles.ensures.sound);
}

pub walk_of-requires : goal.walk_of-requires
walk_of-requires c = word_next _ _ _ c.in-Some.letters (into_iter_items c.next.new.self) c.loop-letters.invariant.walks
    (search rules)

pub loop-letters-preserved : goal.loop-letters-preserved
loop-letters-preserved c = record {
  can_next = tt;
  is_finite = tt;
  walks = walk_more _ _ _ c.in-Some.letters _ c.walk_of.result _ c.loop-letters.invariant.walks (search rules)
      c.walk_of.ensures.value c.walk_of.ensures.closed c.in_ok-push.ensures.items;
}
