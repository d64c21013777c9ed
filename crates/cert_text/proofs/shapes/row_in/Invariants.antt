use Rattle.std.proofs.Common.{◌≡◌, map, take, Some}
use Rattle.serde_json.specs.View.{view}
use Rattle.cert_text.specs.Shapes.{all_read, natural_in}
use Rattle.cert_text.proofs.shapes.row_in.Given as goal

abbrev pub invariant-loop-entry : goal.invariant-loop-entry
invariant-loop-entry l = all_read natural_in (map view (take l.entry-index l.list)) ≡ Some l.numbers.items
