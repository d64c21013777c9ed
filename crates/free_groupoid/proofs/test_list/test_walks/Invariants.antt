use Rattle.std.specs.Vec.Iter.{into_iter_items}
use Rattle.free_groupoid.proofs.TestedWalks.{IsUnderWay}
use Rattle.free_groupoid.proofs.test_list.test_walks.Given as goal

abbrev pub invariant-loop-letters : goal.invariant-loop-letters
invariant-loop-letters l = record {
  can_next : (goal.iterator-loop-letters).can_next l.letters-iterator;
  is_finite : (goal.iterator-loop-letters).is_finite l.letters-iterator;
  walks : IsUnderWay l.tri l.walks.items (into_iter_items l.letters-iterator);
}
