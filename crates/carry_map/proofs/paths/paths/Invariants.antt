use Rattle.std.proofs.Common.{ℕ, [], ◌≡◌, ◌<◌, get_or, map, take}
use Rattle.tri_atlas.specs.Arena.{triangulation}
use Rattle.free_groupoid.specs.GroupoidMaps.{substitution}
use Rattle.train_track.specs.Branches.{words_of}
use Rattle.carry_map.specs.AnchorAnswers.{walk_by, FitsBy}
use Rattle.carry_map.proofs.paths.paths.Given as goal

abbrev pub invariant-loop-j : goal.invariant-loop-j
invariant-loop-j l =
    (l.paths.items
    ≡ map (walk_by (triangulation l.atlas l.track.tri) l.track.left_out (substitution l.psi.images) l.anchors)
    (words_of (take l.j l.track.branches)))
    × ((k : ℕ) → k < l.j
    → FitsBy (triangulation l.atlas l.track.tri) l.track.left_out (substitution l.psi.images) l.anchors
    (get_or (words_of l.track.branches) k []))
