use Rattle.std.proofs.Common.{◌≡◌, take}
use Rattle.std.specs.List.{flat_map}
use Rattle.free_groupoid.specs.TestWalks.{loop}
use Rattle.free_groupoid.proofs.inner_paths.root_walk.Given as goal

abbrev pub invariant-loop-x : goal.invariant-loop-x
invariant-loop-x l = l.walk.items ≡ flat_map (loop l.tri) (take l.x-index l.x-items)
