use Rattle.std.proofs.Common.{◌≡◌, map, take, count_by}
use Rattle.tri_atlas.specs.Arena.{step_of}
use Rattle.tri_atlas.specs.Paths.{is_flip}
use Rattle.edge_coords.proofs.moves.flips.Given as goal

abbrev pub invariant-loop-m : goal.invariant-loop-m
invariant-loop-m l = l.flips ≡ count_by is_flip (map (step_of l.atlas) (take l.m-index l.moves))
