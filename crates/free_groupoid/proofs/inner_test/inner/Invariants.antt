use Rattle.std.specs.Vec.Iter.{into_iter_items}
use Rattle.free_groupoid.proofs.InnerSearch.{IsSearching}
use Rattle.free_groupoid.proofs.inner_test.inner.Given as goal

abbrev pub invariant-loop-word : goal.invariant-loop-word
invariant-loop-word l = record {
  can_next : (goal.iterator-loop-word).can_next l.word-iterator;
  is_finite : (goal.iterator-loop-word).is_finite l.word-iterator;
  search : IsSearching l.tri l.f (into_iter_items l.word-iterator);
}
