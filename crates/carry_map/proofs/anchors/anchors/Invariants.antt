use Rattle.std.proofs.Common.{ℕ, ◌≡◌, ◌<◌, length}
use Rattle.ideal_tri.specs.Triangulations.{triangle_of}
use Rattle.tri_atlas.specs.Arena.{triangulation}
use Rattle.free_groupoid.specs.GroupoidMaps.{substitution, vertex_image}
use Rattle.train_track.specs.Branches.{letter_at}
use Rattle.carry_map.specs.AnchorAnswers.{IsAnchored, IsReachedFrom, place_at}
use Rattle.carry_map.proofs.anchors.anchors.Given as goal

abbrev pub invariant-loop-s : goal.invariant-loop-s
invariant-loop-s l =
    (length l.anchors.items ≡ l.s-index)
    × ((k : ℕ) → k < l.s-index
    → IsAnchored (triangulation l.atlas l.track.tri) l.track.left_out (substitution l.psi.images) k
    (place_at l.anchors.items k)
    × IsReachedFrom (triangulation l.atlas l.track.tri) l.track.left_out
    (vertex_image l.psi (triangle_of (triangulation l.atlas l.track.tri) (letter_at l.track.switches k)))
    (place_at l.anchors.items k))
