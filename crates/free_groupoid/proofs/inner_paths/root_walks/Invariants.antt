use Rattle.std.proofs.Common.{◌≡◌, map}
use Rattle.std.specs.List.{range_with_len}
use Rattle.free_groupoid.specs.inside.Images.{words_of}
use Rattle.free_groupoid.specs.inside.ComputedWalks.{root_word}
use Rattle.free_groupoid.proofs.inner_paths.root_walks.Given as goal

abbrev pub invariant-loop-t : goal.invariant-loop-t
invariant-loop-t l = words_of l.walks.items ≡ map (root_word l.tri l.f) (range_with_len 0 l.t)
