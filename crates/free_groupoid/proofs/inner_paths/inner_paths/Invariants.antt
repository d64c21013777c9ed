use Rattle.std.proofs.Common.{◌≡◌, map}
use Rattle.std.specs.List.{range_with_len}
use Rattle.free_groupoid.specs.inside.ComputedWalks.{path_from}
use Rattle.free_groupoid.proofs.inner_paths.inner_paths.Given as goal

abbrev pub invariant-loop-t : goal.invariant-loop-t
invariant-loop-t l = l.paths.items ≡ map (path_from l.tri l.f) (range_with_len 0 l.t)
