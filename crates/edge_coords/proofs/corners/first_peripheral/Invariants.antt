use Rattle.std.proofs.Common.{◌≡◌, ◌<◌, ℤ}
use Rattle.ideal_tri.specs.Labels.{edge_of}
use Rattle.ideal_tri.specs.PeripheralParts.{least_count}
use Rattle.edge_coords.proofs.corners.first_peripheral.Given as goal

abbrev pub invariant-loop-e : goal.invariant-loop-e
invariant-loop-e l = (y : ℤ) → edge_of y < l.e → least_count l.tri l.w y ≡ 0
