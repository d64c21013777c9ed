use Rattle.std.proofs.Common.{take}
use Rattle.tri_atlas.specs.Moves.{relabel}
use Rattle.tri_atlas.specs.MovedVectors.{vector_after}
use Rattle.edge_coords.proofs.Relabelled.{IsMovedUpTo}
use Rattle.edge_coords.proofs.moves.relabel.Given as goal

abbrev pub invariant-loop-k : goal.invariant-loop-k
invariant-loop-k l =
    IsMovedUpTo (take l.count l.images) (vector_after (relabel (take l.count l.images)) (take l.count l.before))
    l.before
    l.numbers l.count l.k
