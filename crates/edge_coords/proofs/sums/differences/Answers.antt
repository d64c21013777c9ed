use Rattle.std.proofs.Common.{◌-◌, ◌<◌, slice_index, length, arith}
use Rattle.edge_coords.specs.declared.coords.TheConstants.{COORDINATE_LIMIT}
use Rattle.edge_coords.proofs.Filled.{filled, small_values}
use Rattle.edge_coords.proofs.sums.differences.Goals as goal

pub returns-clause-value : goal.returns-clause-value
returns-clause-value c =
    filled (λ e. slice_index c.args.u.now e - slice_index c.args.v.now e) c.loop-e.rest (length c.args.u.now) c.loop-e.e
    c.requires.few c.loop-e-test.false c.loop-e.invariant.filled

pub returns-clause-small : goal.returns-clause-small
returns-clause-small c =
    small_values (λ e. slice_index c.args.u.now e - slice_index c.args.v.now e) (length c.args.u.now)
    (λ k h. let low : slice_index c.args.u.now k < COORDINATE_LIMIT = c.requires.small k 0 h in omega arith)
