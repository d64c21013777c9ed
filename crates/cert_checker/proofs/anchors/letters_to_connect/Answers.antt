use Rattle.std.proofs.Common.{◌≡◌, length, sym, ◌∙◌, ap, arith, rules}
use Rattle.std.proofs.lemmas.List.{get_or-map, length-map}
use Rattle.cert_text.specs.Certificates.{Anchored, anchor_seen, anchors_seen}
use Rattle.cert_checker.proofs.ListsTogether.{letters_told, all_told}
use Rattle.cert_checker.proofs.anchors.letters_to_connect.Goals as goal

pub loop-anchor-preserved : goal.loop-anchor-preserved
loop-anchor-preserved c =
    let seen : Anchored = anchor_seen c.anchor-item.result in
    let long : c.len.result ≡ length seen.connect = search rules in
    letters_told (λ (a : Anchored). a.connect) (anchors_seen c.args.anchors.now) c.loop-anchor.anchor-index
    c.loop-anchor.letters c.len.result c.saturating_add-letters.result seen
    (let less = c.loop-anchor-test.true in omega (arith, length-map c.args.anchors.now anchor_seen))
    (ap anchor_seen c.anchor-item.is
    ∙ sym (get_or-map anchor_seen c.args.anchors.now c.loop-anchor.anchor-index c.anchor-item.result seen
    c.loop-anchor-test.true))
    c.loop-anchor.invariant long c.saturating_add-letters.ensures

pub returns : goal.returns
returns c =
    all_told (λ (a : Anchored). a.connect) (anchors_seen c.args.anchors.now) c.loop-anchor.anchor-index
    c.loop-anchor.letters
    (let long = c.loop-anchor-test.false in omega (arith, length-map c.args.anchors.now anchor_seen))
    c.loop-anchor.invariant
