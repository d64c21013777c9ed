use Rattle.std.proofs.Common.{◌≡◌, map, take, Some}
use Rattle.serde_json.specs.View.{view}
use Rattle.surface_lib.specs.Json.{all_read, whole_in}
use Rattle.surface_lib.proofs.json.numbers_in.Given as goal

abbrev pub invariant-loop-entry : goal.invariant-loop-entry
invariant-loop-entry l = all_read whole_in (map view (take l.entry-index l.list)) ≡ Some l.numbers.items
