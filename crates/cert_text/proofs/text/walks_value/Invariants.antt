use Rattle.std.proofs.Common.{◌≡◌, map, take, Some}
use Rattle.serde_json.specs.View.{view}
use Rattle.cert_text.specs.Certificates.{walks_of}
use Rattle.cert_text.specs.Shapes.{all_read, walk_in}
use Rattle.cert_text.specs.Texts.{walk_data}
use Rattle.cert_text.proofs.text.walks_value.Given as goal

abbrev pub invariant-loop-walk : goal.invariant-loop-walk
invariant-loop-walk l =
    (map view l.list.items ≡ map (λ walk. walk_data walk.items) (take l.walk-index l.walks))
    × (all_read walk_in (map walk_data (take l.walk-index (walks_of l.walks)))
    ≡ Some (take l.walk-index (walks_of l.walks)))
