use Rattle.std.proofs.Common.{ℕ, ℤ, List, ◌≡◌, ◌<◌, length, min, sym, ◌∙◌, ap, subst, arith}
use Rattle.std.proofs.lemmas.Bool.{true≢false}
use Rattle.std.proofs.lemmas.List.{length-map}
use Rattle.tri_atlas.specs.Arena.{triangulation}
use Rattle.free_groupoid.specs.GroupoidMaps.{vertex_image}
use Rattle.train_track.specs.Tracks.{switches_of}
use Rattle.cert_text.specs.Certificates.{anchor_seen, anchors_seen}
use Rattle.cert_checker.specs.TrackRules.{IsAnchorAt}
use Rattle.cert_checker.proofs.AnchorReads.{anchor_passed, anchor_passes, as_many, label_is}
use Rattle.cert_checker.proofs.ListsTogether.{fewer_pass, pass_more}
use Rattle.cert_checker.proofs.anchors.first_misplaced.Goals as goal

pub is_anchor-requires-clause-label : goal.is_anchor-requires-clause-label
is_anchor-requires-clause-label c =
    label_is (triangulation c.args.atlas.now c.args.site.now.track.tri) c.args.site.now.track.left_out
    c.switches-switches.result.now c.args.anchors.now c.loop-i.i c.min-i-end.result c.index-switches-i.result
    c.index-anchors-i.result (c.switches-switches.ensures ∙ c.requires.here.here.on.switches) c.min-i-end.ensures
    c.loop-i-test.true c.index-switches-i.is

pub loop-i-preserved : goal.loop-i-preserved
loop-i-preserved c =
    let here : List (List ℤ) = triangulation c.args.atlas.now c.args.site.now.track.tri in
    let triangles : ℕ → ℕ = vertex_image c.args.site.now.map in
    pass_more (IsAnchorAt here c.args.site.now.track.left_out triangles (anchors_seen c.args.anchors.now)) c.loop-i.i
    c.loop-i.invariant
    (anchor_passes here c.args.site.now.track.left_out c.switches-switches.result.now c.args.anchors.now c.loop-i.i
    c.min-i-end.result c.index-switches-i.result c.index-anchors-i.result
    (c.switches-switches.ensures ∙ c.requires.here.here.on.switches) c.min-i-end.ensures c.loop-i-test.true
    c.index-switches-i.is triangles c.index-anchors-i.is (c.is_anchor.ensures.0 c.if-not-is_anchor.false))

pub returns-then-not-is_anchor-clause-some : goal.returns-then-not-is_anchor-clause-some
returns-then-not-is_anchor-clause-some c =
    let here : List (List ℤ) = triangulation c.args.atlas.now c.args.site.now.track.tri in
    let out : List ℤ = c.args.site.now.track.left_out in
    let triangles : ℕ → ℕ = vertex_image c.args.site.now.map in
    let listed : c.switches-switches.result.now ≡ switches_of here out =
    c.switches-switches.ensures ∙ c.requires.here.here.on.switches in
    let count : c.min-i-end.result ≡ min (length (anchors_seen c.args.anchors.now)) (length (switches_of here out)) =
    as_many c.min-i-end.result (length c.args.anchors.now) (length c.switches-switches.result.now) _ _
    c.min-i-end.ensures (length-map c.args.anchors.now anchor_seen) (ap (λ (xs : List ℤ). length xs) listed) in
    record {
      within = subst (λ (n : ℕ). c.loop-i.i < n) count c.loop-i-test.true;
      fails =
          λ h. absurd (true≢false (sym (c.is_anchor.ensures.1
          (anchor_passed here out c.switches-switches.result.now c.args.anchors.now c.loop-i.i c.min-i-end.result
          c.index-switches-i.result c.index-anchors-i.result listed c.min-i-end.ensures c.loop-i-test.true
          c.index-switches-i.is triangles c.index-anchors-i.is h))
          ∙ c.if-not-is_anchor.true));
      before = c.loop-i.invariant;
    }

pub returns-clause-none : goal.returns-clause-none
returns-clause-none c =
    let here : List (List ℤ) = triangulation c.args.atlas.now c.args.site.now.track.tri in
    let out : List ℤ = c.args.site.now.track.left_out in
    let listed : c.switches-switches.result.now ≡ switches_of here out =
    c.switches-switches.ensures ∙ c.requires.here.here.on.switches in
    let count : c.min-i-end.result ≡ min (length (anchors_seen c.args.anchors.now)) (length (switches_of here out)) =
    as_many c.min-i-end.result (length c.args.anchors.now) (length c.switches-switches.result.now) _ _
    c.min-i-end.ensures (length-map c.args.anchors.now anchor_seen) (ap (λ (xs : List ℤ). length xs) listed) in
    fewer_pass (IsAnchorAt here out (vertex_image c.args.site.now.map) (anchors_seen c.args.anchors.now))
    (min (length (anchors_seen c.args.anchors.now)) (length (switches_of here out))) c.loop-i.i
    (let long = c.loop-i-test.false in omega (arith, count)) c.loop-i.invariant
