use Rattle.std.proofs.Common.{◌≡◌, map, take}
use Rattle.serde_json.specs.View.{view}
use Rattle.cert_text.specs.Texts.{natural}
use Rattle.cert_text.proofs.text.row_value.Given as goal

abbrev pub invariant-loop-n : goal.invariant-loop-n
invariant-loop-n l = map view l.list.items ≡ map natural (take l.n-index l.row)
