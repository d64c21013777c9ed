use Rattle.std.proofs.Common.{◌≡◌, map, take, Some}
use Rattle.serde_json.specs.View.{view}
use Rattle.cert_text.specs.Certificates.{anchor_seen, anchors_seen}
use Rattle.cert_text.specs.Shapes.{all_read, anchor_in}
use Rattle.cert_text.specs.Texts.{anchor_data}
use Rattle.cert_text.proofs.text.anchors_value.Given as goal

abbrev pub invariant-loop-anchor : goal.invariant-loop-anchor
invariant-loop-anchor l =
    (map view l.list.items ≡ map (λ a. anchor_data (anchor_seen a)) (take l.anchor-index l.anchors))
    × (all_read anchor_in (map anchor_data (take l.anchor-index (anchors_seen l.anchors)))
    ≡ Some (take l.anchor-index (anchors_seen l.anchors)))
