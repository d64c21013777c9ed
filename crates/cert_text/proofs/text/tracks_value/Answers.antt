use Rattle.std.proofs.Common.{map, arith, ◌∙◌, ap, sym, refl}
use Rattle.serde_json.specs.Data.{string}
use Rattle.serde_json.specs.View.{view}
use Rattle.cert_text.specs.Shapes.{list_in, track_in}
use Rattle.cert_text.specs.Texts.{track_text}
use Rattle.cert_text.proofs.Lists.{all_made, in_one, made_more}
use Rattle.cert_text.proofs.ReadBack.{back_more, back_all}
use Rattle.cert_text.proofs.text.tracks_value.Goals as goal

pub loop-line-preserved : goal.loop-line-preserved
loop-line-preserved c =
    let made = c.from.ensures ∙ ap string c.in_ok-text.ensures.text in (
      ap (map view) c.in_ok-push.ensures.items
          ∙ made_more string track_text c.args.lines.now c.loop-line.line-index _ _ _ _ c.loop-line-test.true refl
          c.loop-line.invariant.0 made,
      back_more track_in (λ line. string (track_text line)) c.args.lines.now c.loop-line.line-index _ _
          c.loop-line-test.true refl c.loop-line.invariant.1 c.in_ok-text.ensures.read_back,
    )

pub returns-clause-tree : goal.returns-clause-tree
returns-clause-tree c =
    c.from-2.ensures
    ∙ all_made (λ line. string (track_text line)) c.args.lines.now c.loop-line.line-index _ (omega arith)
    c.loop-line.invariant.0
    ∙ in_one track_text string c.args.lines.now

pub returns-clause-read_back : goal.returns-clause-read_back
returns-clause-read_back c =
    ap (list_in track_in) (sym (in_one track_text string c.args.lines.now))
    ∙ back_all track_in (λ line. string (track_text line)) c.args.lines.now c.loop-line.line-index (omega arith)
    c.loop-line.invariant.1
