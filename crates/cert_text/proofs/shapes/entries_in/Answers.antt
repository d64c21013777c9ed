use Rattle.std.proofs.Common.{Some, map, ap, sym, ◌∙◌}
use Rattle.std.specs.Option.{option_map}
use Rattle.serde_json.specs.View.{view}
use Rattle.cert_text.specs.Shapes.{entries_of}
use Rattle.cert_text.proofs.Entries.{entries_of-items_of}
use Rattle.cert_text.proofs.shapes.entries_in.Goals as goal

pub returns : goal.returns
returns c =
    ap Some (ap (map view) c.as_slice.ensures.value ∙ sym (entries_of-items_of _))
    ∙ ap (option_map entries_of) c.in_ok-as_array.ensures
