use Rattle.std.proofs.Common.{◌≡◌, map, take}
use Rattle.tri_atlas.specs.Arena.{back}
use Rattle.tri_atlas.proofs.path.backs.Given as goal

abbrev pub invariant-loop-m : goal.invariant-loop-m
invariant-loop-m l = l.backs.items ≡ map back (take l.m-index l.moves)
