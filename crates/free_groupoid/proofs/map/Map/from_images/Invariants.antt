use Rattle.std.proofs.Common.{◌≡◌, ◌++◌, map}
use Rattle.std.specs.Vec.Iter.{into_iter_items}
use Rattle.ideal_tri.specs.declared.tri.TheConstants.{EDGES}
use Rattle.free_groupoid.specs.inside.Images.{words_of}
use Rattle.free_groupoid.proofs.map.Map.from_images.Given as goal

abbrev pub invariant-loop-walk : goal.invariant-loop-walk
invariant-loop-walk l = record {
  can_next : (goal.iterator-loop-walk).can_next l.walk-iterator;
  is_finite : (goal.iterator-loop-walk).is_finite l.walk-iterator;
  taken : words_of l.words.items ++ map (λ w. w.letters) (into_iter_items l.walk-iterator)
      ≡ map (λ w. w.letters) l.fn.images.items;
  room : l.words.capacity ≡ EDGES;
}
