use Rattle.std.proofs.Common.{◌≡◌, ◌<◌, ◌^◌, map, take, Some, All}
use Rattle.serde_json.specs.View.{view}
use Rattle.surface_lib.specs.Json.{all_read}
use Rattle.surface_lib.specs.TwistForms.{count_in}
use Rattle.surface_lib.proofs.twist_form.counts_in.Given as goal

abbrev pub invariant-loop-entry : goal.invariant-loop-entry
invariant-loop-entry l = record {
  read : all_read count_in (map view (take l.entry-index l.list)) ≡ Some l.counts.items;
  small : All (λ n. n < 2 ^ 31) l.counts.items;
}
