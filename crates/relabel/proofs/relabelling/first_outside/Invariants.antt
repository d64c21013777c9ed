use Rattle.std.proofs.Common.{◌<◌, All, take}
use Rattle.ideal_tri.specs.Labels.{edge_of}
use Rattle.relabel.proofs.relabelling.first_outside.Given as goal

abbrev pub invariant-loop-place : goal.invariant-loop-place
invariant-loop-place l = All (λ x. edge_of x < l.edges) (take l.place l.list)
