use Rattle.std.proofs.Common.{◌≡◌, map, take}
use Rattle.serde_json.specs.Data.{string}
use Rattle.serde_json.specs.View.{view}
use Rattle.cert_text.specs.Texts.{curve_text}
use Rattle.cert_text.proofs.text.curves_value.Given as goal

abbrev pub invariant-loop-line : goal.invariant-loop-line
invariant-loop-line l =
    map view l.list.items ≡ map (λ line. string (curve_text line)) (take l.line-index l.lines)
