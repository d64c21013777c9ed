use Rattle.std.proofs.Common.{◌+◌, slice_index, length, ◌∙◌, arith}
use Rattle.std.proofs.lemmas.List.FromFn.{get_or-map-range_with_len, length-map-range_with_len}
use Rattle.edge_coords.specs.Sums.{sums}
use Rattle.edge_coords.proofs.sums.sum_law.Goals as goal

pub returns : goal.returns
returns c triples u v sound first second =
    ((c.corner_laws.ensures triples sound).sum u v (sums u v) first second
    (length-map-range_with_len _ 0 (length u) ∙ first.one_per_edge)
    (λ e within. get_or-map-range_with_len _ 0 (length u) e e 0 (omega arith) (omega arith))).0
