use Rattle.std.proofs.Common.{Some, ap, sym, ◌∙◌, option_and_then, arith}
use Rattle.std.specs.Option.{option_map}
use Rattle.cert_text.specs.Certificates.{anchor_seen, anchors_seen}
use Rattle.cert_text.specs.Shapes.{all_read, anchor_in}
use Rattle.cert_text.proofs.Entries.{seen_more, read_all, read_stuck}
use Rattle.cert_text.proofs.shapes.anchors_in.Goals as goal

pub returns-in_default-2 : goal.returns-in_default-2
returns-in_default-2 c =
    let nothing = sym (ap (option_map anchor_seen) c.in_default-2.is) ∙ c.in_ok-anchor.ensures in
    read_stuck anchor_in c.in-Some.list.now c.loop-entry.entry-index _ c.loop-entry-test.true c.entry-item.is nothing
    ∙ ap (option_and_then (all_read anchor_in)) c.in-Some.ensures

pub loop-entry-preserved : goal.loop-entry-preserved
loop-entry-preserved c =
    let now = sym (ap (option_map anchor_seen) c.in-Some-2.is) ∙ c.in_ok-anchor.ensures in
    seen_more anchor_in anchor_seen c.in-Some.list.now c.loop-entry.entry-index _ _ _ c.loop-entry-test.true c.entry-item.is
    c.loop-entry.invariant now
    ∙ ap (λ xs. Some (anchors_seen xs)) (sym c.in_ok-push.ensures.items)

pub returns : goal.returns
returns c =
    read_all anchor_in c.in-Some.list.now c.loop-entry.entry-index (anchors_seen c.loop-entry.anchors.items) (omega arith)
    c.loop-entry.invariant
    ∙ ap (option_and_then (all_read anchor_in)) c.in-Some.ensures
