use Rattle.std.proofs.Common.{◌≡◌, take}
use Rattle.std.specs.List.{All, flat_map}
use Rattle.ideal_tri.specs.Triangulations.{IsLabel}
use Rattle.free_groupoid.specs.inside.InnerPaths.{collapse}
use Rattle.free_groupoid.proofs.inner_paths.collapsed.Given as goal

abbrev pub invariant-loop-x : goal.invariant-loop-x
invariant-loop-x l = (l.kept.items ≡ flat_map (collapse l.tri l.r) (take l.x-index l.word))
    × All (IsLabel l.tri) l.kept.items
