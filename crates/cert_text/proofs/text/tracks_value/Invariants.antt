use Rattle.std.proofs.Common.{◌≡◌, map, take, Some}
use Rattle.serde_json.specs.Data.{string}
use Rattle.serde_json.specs.View.{view}
use Rattle.cert_text.specs.Shapes.{all_read, track_in}
use Rattle.cert_text.specs.Texts.{track_text}
use Rattle.cert_text.proofs.text.tracks_value.Given as goal

abbrev pub invariant-loop-line : goal.invariant-loop-line
invariant-loop-line l =
    (map view l.list.items ≡ map (λ line. string (track_text line)) (take l.line-index l.lines))
    × (all_read track_in (map (λ line. string (track_text line)) (take l.line-index l.lines))
    ≡ Some (take l.line-index l.lines))
