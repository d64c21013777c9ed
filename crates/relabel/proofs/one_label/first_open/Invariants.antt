use Rattle.std.proofs.Common.{ℤ, ◌<◌}
use Rattle.ideal_tri.specs.Labels.{edge_of}
use Rattle.ideal_tri.specs.Triangulations.{next}
use Rattle.relabel.specs.inside.Forced.{IsKnown}
use Rattle.relabel.proofs.one_label.first_open.Given as goal

abbrev pub invariant-loop-edge : goal.invariant-loop-edge
invariant-loop-edge l =
    (x : ℤ) → edge_of x < l.edge → IsKnown l.known (edge_of x) → IsKnown l.known (edge_of (next l.from x))
