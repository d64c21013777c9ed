use Rattle.std.proofs.Common.{◌≡◌, map, take, Some}
use Rattle.serde_json.specs.View.{view}
use Rattle.cert_text.specs.Shapes.{all_read, coordinate_in}
use Rattle.cert_text.proofs.shapes.coords_in.Given as goal

abbrev pub invariant-loop-entry : goal.invariant-loop-entry
invariant-loop-entry l = all_read coordinate_in (map view (take l.entry-index l.list)) ≡ Some l.coords.items
