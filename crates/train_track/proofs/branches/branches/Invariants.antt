use Rattle.std.proofs.Common.{◌≡◌, ◌≤◌, ◌*◌, map, length}
use Rattle.std.specs.List.{flat_map, range_with_len}
use Rattle.ideal_tri.specs.Vertices.{label_of_rank}
use Rattle.free_groupoid.specs.Walks.{walk_of_letters}
use Rattle.train_track.specs.inside.Growing.{listed_from}
use Rattle.train_track.proofs.branches.branches.Given as goal

abbrev pub invariant-loop-k : goal.invariant-loop-k
invariant-loop-k l = record {
  found :
      l.found.items
      ≡ map (walk_of_letters l.tri) (flat_map (listed_from l.tri l.left_out) (map label_of_rank (range_with_len 0 l.k)));
  few : length l.found.items ≤ 2 * l.k;
}
