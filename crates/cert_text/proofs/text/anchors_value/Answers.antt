use Rattle.std.proofs.Common.{◌<◌, ◌≤◌, length, map, arith, ◌∙◌, ap}
use Rattle.std.proofs.lemmas.List.{length-map}
use Rattle.serde_json.specs.View.{view}
use Rattle.cert_text.specs.Certificates.{anchor_seen, anchors_seen}
use Rattle.cert_text.specs.Shapes.{anchor_in}
use Rattle.cert_text.specs.Texts.{anchor_data}
use Rattle.cert_text.proofs.Lists.{all_made, in_one, made_more}
use Rattle.cert_text.proofs.ReadBack.{back_more, back_all, seen_at}
use Rattle.cert_text.proofs.text.anchors_value.Goals as goal

pub loop-anchor-preserved : goal.loop-anchor-preserved
loop-anchor-preserved c =
    let within : c.loop-anchor.anchor-index < length (anchors_seen c.args.anchors.now) =
    simp length-map c.loop-anchor-test.true in (
      ap (map view) c.in_ok-push.ensures.items
          ∙ made_more anchor_data anchor_seen c.args.anchors.now c.loop-anchor.anchor-index _ _ _ _
          c.loop-anchor-test.true c.anchor-item.is c.loop-anchor.invariant.0 c.in_ok-anchor_value.ensures.tree,
      back_more anchor_in anchor_data (anchors_seen c.args.anchors.now) c.loop-anchor.anchor-index _ _ within
          (seen_at anchor_seen c.args.anchors.now c.loop-anchor.anchor-index _ _ c.loop-anchor-test.true c.anchor-item.is)
          c.loop-anchor.invariant.1 c.in_ok-anchor_value.ensures.read_back,
    )

pub returns-clause-tree : goal.returns-clause-tree
returns-clause-tree c =
    c.from.ensures
    ∙ all_made (λ a. anchor_data (anchor_seen a)) c.args.anchors.now c.loop-anchor.anchor-index _ (omega arith)
    c.loop-anchor.invariant.0
    ∙ in_one anchor_seen anchor_data c.args.anchors.now

pub returns-clause-read_back : goal.returns-clause-read_back
returns-clause-read_back c =
    let all : length (anchors_seen c.args.anchors.now) ≤ c.loop-anchor.anchor-index = simp length-map (omega arith) in
    back_all anchor_in anchor_data (anchors_seen c.args.anchors.now) c.loop-anchor.anchor-index all c.loop-anchor.invariant.1
