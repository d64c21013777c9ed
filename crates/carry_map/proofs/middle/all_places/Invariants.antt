use Rattle.std.proofs.Common.{ℕ, [], ◌≡◌, ◌<◌, length, get_or}
use Rattle.tri_atlas.specs.Arena.{triangulation}
use Rattle.free_groupoid.specs.GroupoidMaps.{substitution, vertex_image}
use Rattle.carry_map.proofs.FoundPlaces.{IsFound}
use Rattle.carry_map.proofs.middle.all_places.Given as goal

abbrev pub invariant-loop-s : goal.invariant-loop-s
invariant-loop-s l =
    (length l.all.items ≡ l.s-index)
    × ((k : ℕ) → k < l.s-index
    → IsFound (triangulation l.atlas l.track.tri) l.track.left_out (substitution l.psi.images) (vertex_image l.psi) k
    (get_or l.all.items k []))
