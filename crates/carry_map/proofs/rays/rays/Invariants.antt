use Rattle.std.specs.Vec.Iter.{into_iter_items}
use Rattle.tri_atlas.specs.Arena.{triangulation}
use Rattle.free_groupoid.specs.GroupoidMaps.{substitution, vertex_image}
use Rattle.carry_map.specs.inside.Rays.{words_in}
use Rattle.carry_map.proofs.RaysUnderWay.{AreUnderWay}
use Rattle.carry_map.proofs.rays.rays.Given as goal

abbrev pub invariant-loop-letters : goal.invariant-loop-letters
invariant-loop-letters l = record {
  can_next : (goal.iterator-loop-letters).can_next l.letters-iterator;
  is_finite : (goal.iterator-loop-letters).is_finite l.letters-iterator;
  rays : AreUnderWay (triangulation l.atlas l.psi.source) (triangulation l.atlas l.psi.target)
      (substitution l.psi.images)
      l.start (vertex_image l.psi l.start) (words_in l.fn.words.items) l.rays.items
      (into_iter_items l.letters-iterator);
}
