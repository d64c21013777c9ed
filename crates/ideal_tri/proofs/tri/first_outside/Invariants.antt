use Rattle.std.proofs.Common.{◌<◌, take}
use Rattle.std.specs.List.{All}
use Rattle.ideal_tri.specs.Labels.{edge_of}
use Rattle.ideal_tri.proofs.tri.first_outside.Given as goal

abbrev pub invariant-loop-x : goal.invariant-loop-x
invariant-loop-x l = All (λ x. edge_of x < l.edges) (take l.x-index l.x-items)
