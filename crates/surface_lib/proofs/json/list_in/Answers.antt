use Rattle.std.proofs.Common.{Some, map, ap, sym, ◌∙◌}
use Rattle.std.specs.Option.{option_map}
use Rattle.serde_json.specs.View.{view}
use Rattle.surface_lib.specs.Json.{entries_of}
use Rattle.surface_lib.proofs.Entries.{entries_of-items_of}
use Rattle.surface_lib.proofs.json.list_in.Goals as goal

pub returns : goal.returns
returns c =
    ap Some (ap (map view) c.as_slice.ensures.value ∙ sym (entries_of-items_of _))
    ∙ ap (option_map entries_of) c.in_ok-as_array.ensures
