use Rattle.std.proofs.Common.{◌≡◌, map, take, Some}
use Rattle.serde_json.specs.View.{view}
use Rattle.cert_text.specs.Shapes.{all_read, integer_in}
use Rattle.cert_text.specs.Texts.{integer}
use Rattle.cert_text.proofs.text.walk_value.Given as goal

abbrev pub invariant-loop-letter : goal.invariant-loop-letter
invariant-loop-letter l =
    (map view l.list.items ≡ map integer (take l.letter-index l.letters))
    × (all_read integer_in (map integer (take l.letter-index l.letters)) ≡ Some (take l.letter-index l.letters))
