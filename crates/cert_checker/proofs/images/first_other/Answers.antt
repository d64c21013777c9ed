use Rattle.std.proofs.Common.{ℕ, ℤ, List, ◌≡◌, ◌<◌, length, min, sym, ◌∙◌, ap, subst, arith, rules}
use Rattle.std.proofs.lemmas.Bool.{true≢false}
use Rattle.std.proofs.lemmas.List.{length-map}
use Rattle.tri_atlas.specs.Arena.{triangulation}
use Rattle.free_groupoid.specs.GroupoidMaps.{substitution}
use Rattle.free_groupoid.specs.Walks.{DualWalk}
use Rattle.train_track.specs.Branches.{words_of}
use Rattle.cert_text.specs.Certificates.{Anchored, anchor_seen, anchors_seen, track_seen, walks_of}
use Rattle.cert_checker.specs.inside.TrackParts.{IsImageOf}
use Rattle.cert_checker.proofs.ImageReads.{image_passed, image_passes, is_branch, tests}
use Rattle.cert_checker.proofs.ListsTogether.{fewer_pass, pass_more}
use Rattle.cert_checker.proofs.images.first_other.Goals as goal

pub is_train_path-requires-clause-as_many : goal.is_train_path-requires-clause-as_many
is_train_path-requires-clause-as_many c =
    sym (length-map c.args.c.now.anchors.items anchor_seen)
    ∙ sym (length-map (anchors_seen c.args.c.now.anchors.items) (λ (a : Anchored). a.to))
    ∙ c.requires.connected.one_label_each
    ∙ ap (λ (xs : List ℤ). length xs) (sym c.requires.here.here.on.switches)

pub is_train_path-requires-clause-branch : goal.is_train_path-requires-clause-branch
is_train_path-requires-clause-branch c =
    let long : c.len.result ≡ length c.args.c.now.images.items = search rules in
    is_branch (triangulation c.args.atlas.now c.args.site.now.track.tri) c.args.site.now.track c.args.c.now
    c.branches-branches.result.now c.min-j-end.result c.len.result c.branches-branches.ensures long c.min-j-end.ensures
    c.loop-j.j c.index-branches-j.result c.index.result.now c.deref.result.now c.deref-in-loop-j.result.now
    c.loop-j-test.true c.index-branches-j.is
    (c.deref.ensures.value ∙ ap (λ (w : DualWalk). w.letters) c.branch.view_is) c.requires.here.here.on

pub loop-j-preserved : goal.loop-j-preserved
loop-j-preserved c =
    let here : List (List ℤ) = triangulation c.args.atlas.now c.args.site.now.track.tri in
    let f : ℤ → List ℤ = substitution c.args.site.now.map.images in
    let long : c.len.result ≡ length c.args.c.now.images.items = search rules in
    pass_more
    (IsImageOf here c.args.site.now.track.left_out f (track_seen c.args.c.now) (words_of c.args.site.now.track.branches))
    c.loop-j.j c.loop-j.invariant
    (image_passes here c.args.site.now.track c.args.c.now c.branches-branches.result.now c.min-j-end.result c.len.result
    c.branches-branches.ensures long c.min-j-end.ensures c.loop-j.j c.index-branches-j.result c.index.result.now
    c.deref.result.now c.deref-in-loop-j.result.now c.loop-j-test.true c.index-branches-j.is
    (c.deref.ensures.value ∙ ap (λ (w : DualWalk). w.letters) c.branch.view_is) f c.index.ensures
    c.deref-in-loop-j.ensures.value (c.in_ok-is_train_path.ensures.0 c.if-not-branch.false))

pub returns-then-not-branch-clause-some : goal.returns-then-not-branch-clause-some
returns-then-not-branch-clause-some c =
    let here : List (List ℤ) = triangulation c.args.atlas.now c.args.site.now.track.tri in
    let f : ℤ → List ℤ = substitution c.args.site.now.map.images in
    let long : c.len.result ≡ length c.args.c.now.images.items = search rules in
    record {
      within = subst (λ (n : ℕ). c.loop-j.j < n) (tests here c.args.site.now.track c.args.c.now
          c.branches-branches.result.now c.min-j-end.result c.len.result c.branches-branches.ensures long
          c.min-j-end.ensures) c.loop-j-test.true;
      fails =
          λ h. absurd (true≢false (sym (c.in_ok-is_train_path.ensures.1
          (image_passed here c.args.site.now.track c.args.c.now c.branches-branches.result.now c.min-j-end.result
          c.len.result c.branches-branches.ensures long c.min-j-end.ensures c.loop-j.j c.index-branches-j.result
          c.index.result.now c.deref.result.now c.deref-in-loop-j.result.now c.loop-j-test.true c.index-branches-j.is
          (c.deref.ensures.value ∙ ap (λ (w : DualWalk). w.letters) c.branch.view_is) f c.index.ensures
          c.deref-in-loop-j.ensures.value h))
          ∙ c.if-not-branch.true));
      before = c.loop-j.invariant;
    }

pub returns-clause-none : goal.returns-clause-none
returns-clause-none c =
    let here : List (List ℤ) = triangulation c.args.atlas.now c.args.site.now.track.tri in
    let f : ℤ → List ℤ = substitution c.args.site.now.map.images in
    let long : c.len.result ≡ length c.args.c.now.images.items = search rules in
    let count : c.min-j-end.result ≡ min (length (walks_of c.args.c.now.images.items))
    (length (words_of c.args.site.now.track.branches)) =
    tests here c.args.site.now.track c.args.c.now c.branches-branches.result.now c.min-j-end.result c.len.result
    c.branches-branches.ensures long c.min-j-end.ensures in
    fewer_pass
    (IsImageOf here c.args.site.now.track.left_out f (track_seen c.args.c.now) (words_of c.args.site.now.track.branches))
    (min (length (walks_of c.args.c.now.images.items)) (length (words_of c.args.site.now.track.branches))) c.loop-j.j
    (let past = c.loop-j-test.false in omega (arith, count)) c.loop-j.invariant
