use Rattle.std.proofs.Common.{◌≡◌, ◌++◌, map, drop}
use Rattle.tri_atlas.specs.Arena.{MoveHandle, step_of}
use Rattle.tri_atlas.specs.MovedVectors.{flipped_edge}
use Rattle.twist_compile.proofs.twist_path.flipped_edges.Given as goal

abbrev pub invariant-loop-m : goal.invariant-loop-m
invariant-loop-m l =
    l.edges.items ++ map (λ (m : MoveHandle). flipped_edge (step_of l.atlas m)) (drop l.m-index l.moves)
    ≡ map (λ (m : MoveHandle). flipped_edge (step_of l.atlas m)) l.moves
