use Rattle.std.proofs.Common.{◌≡◌, ◌==◌, map}
use Rattle.std.specs.List.{filter, range_with_len}
use Rattle.ideal_tri.specs.Vectors.{corner_count}
use Rattle.ideal_tri.specs.Vertices.{label_of_rank}
use Rattle.tri_atlas.specs.Arena.{triangulation}
use Rattle.train_track.proofs.corners.free_corners.Given as goal

abbrev pub invariant-loop-k : goal.invariant-loop-k
invariant-loop-k l =
    l.found.items
    ≡ filter (λ x. corner_count (triangulation l.atlas l.w.tri) l.w.numbers x == 0)
    (map label_of_rank (range_with_len 0 l.k))
