use Rattle.std.proofs.Common.{◌≡◌, map, take}
use Rattle.serde_json.specs.View.{view}
use Rattle.cert_text.specs.Texts.{numbers_data}
use Rattle.cert_text.proofs.text.rows_value.Given as goal

abbrev pub invariant-loop-row : goal.invariant-loop-row
invariant-loop-row l =
    map view l.list.items ≡ map (λ row. numbers_data row.items) (take l.row-index l.rows)
