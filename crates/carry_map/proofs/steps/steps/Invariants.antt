use Rattle.std.proofs.Common.{◌≡◌, take}
use Rattle.tri_atlas.specs.Arena.{triangulation}
use Rattle.free_groupoid.specs.GroupoidMaps.{substitution}
use Rattle.train_track.specs.Branches.{words_of}
use Rattle.carry_map.specs.MiddleAnchors.{switches_between}
use Rattle.carry_map.specs.inside.Steps.{steps_of}
use Rattle.carry_map.proofs.steps.steps.Given as goal

abbrev pub invariant-loop-branch : goal.invariant-loop-branch
invariant-loop-branch l =
    l.steps.items
    ≡ steps_of l.track.switches
    (switches_between (triangulation l.atlas l.track.tri) l.track.left_out (substitution l.psi.images)
    l.all)
    (words_of (take l.branch-index l.track.branches))
