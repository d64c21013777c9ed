use Rattle.std.proofs.Common.{◌≡◌, map, take}
use Rattle.ideal_tri.specs.Vertices.{vertex_of}
use Rattle.train_track.proofs.corners.vertices_of.Given as goal

abbrev pub invariant-loop-x : goal.invariant-loop-x
invariant-loop-x l = l.vertices.items ≡ map (vertex_of l.tri) (take l.x-index l.corners)
