use Rattle.std.proofs.Common.{ℕ, ◌≡◌, ◌<◌, map, take}
use Rattle.ideal_tri.specs.Triangulations.{triangle_of}
use Rattle.tri_atlas.specs.Arena.{triangulation}
use Rattle.free_groupoid.specs.GroupoidMaps.{vertex_image}
use Rattle.free_groupoid.specs.Walks.{walk_at}
use Rattle.train_track.specs.Branches.{letter_at, words_of}
use Rattle.carry_map.proofs.carry.walks.Given as goal

abbrev pub invariant-loop-i : goal.invariant-loop-i
invariant-loop-i l =
    (words_of l.walks.items ≡ map (λ p. p.connect) (take l.i l.anchors))
    × ((k : ℕ) → k < l.i → (walk_at l.walks.items k).start
    ≡ vertex_image l.psi (triangle_of (triangulation l.atlas l.track.tri) (letter_at l.track.switches k)))
