use Rattle.std.proofs.Common.{◌≡◌, map, take}
use Rattle.serde_json.specs.View.{view}
use Rattle.cert_text.specs.Texts.{natural}
use Rattle.cert_text.proofs.text.flips_value.Given as goal

abbrev pub invariant-loop-edge : goal.invariant-loop-edge
invariant-loop-edge l = map view l.list.items ≡ map natural (take l.edge-index l.edges)
