use Rattle.std.proofs.Common.{◌-◌, pos, negsuc, slice_index}
use Rattle.ideal_tri.specs.PeripheralParts.{least_count}
use Rattle.edge_coords.proofs.Filled.{IsFilled}
use Rattle.edge_coords.proofs.corners.stripped.Given as goal

abbrev pub invariant-loop-e : goal.invariant-loop-e
invariant-loop-e l =
    IsFilled (λ e. slice_index l.w e - least_count l.tri l.w (pos e) - least_count l.tri l.w (negsuc e)) l.numbers l.e
