use Rattle.std.proofs.Common.{map}
use Rattle.ideal_tri.specs.Triangulations.{edge_count}
use Rattle.tri_atlas.specs.Moves.{triangle_image}
use Rattle.tri_atlas.specs.Steps.{move_of}
use Rattle.free_groupoid.proofs.Filling.{IsFilled}
use Rattle.free_groupoid.proofs.triangles.moved_triangles.Given as goal

abbrev pub invariant-loop-k : goal.invariant-loop-k
invariant-loop-k l = IsFilled (map (triangle_image l.before l.after (move_of (edge_count l.before) l.step))
    l.triangles) l.moved l.k
