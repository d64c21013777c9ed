use Rattle.std.proofs.Common.{ℕ, ℤ, List, ◌≡◌, w32, to_z, of_z, sym, ◌∙◌, ap, subst, rules}
use Rattle.std.proofs.lemmas.Bool.{true≢false}
use Rattle.ideal_tri.specs.Triangulations.{IsLabel, triangle_of}
use Rattle.ideal_tri.specs.Words.{IsReduced}
use Rattle.tri_atlas.specs.Arena.{triangulation}
use Rattle.free_groupoid.specs.GroupoidMaps.{vertex_image}
use Rattle.train_track.specs.Tracks.{is_switch}
use Rattle.cert_checker.proofs.WalkLetters.{same_walk}
use Rattle.cert_checker.proofs.anchors.is_anchor.Goals as goal

pub returns-then-ne : goal.returns-then-ne
returns-then-ne c =
    let same : to_z w32 (of_z w32 c.args.anchor.now.switch) ≡ c.args.anchor.now.switch = search rules in (
      λ h. absurd (true≢false (sym h)),
      λ is. absurd (c.letter_laws.ensures.differ c.new.result c.args.s c.ne.result c.ne.ensures c.if-ne.true
          (c.new.ensures ∙ same ∙ is.named)),
    )

pub returns-then-not-is_of_switch : goal.returns-then-not-is_of_switch
returns-then-not-is_of_switch c =
    let here : List (List ℤ) = triangulation c.args.atlas.now c.args.site.now.track.tri in
    let same : to_z w32 (of_z w32 c.args.anchor.now.to) ≡ c.args.anchor.now.to = search rules in
    let to_is : c.new-to.result ≡ c.args.anchor.now.to = c.new-to.ensures ∙ same in (
      λ h. absurd (true≢false (sym h)),
      λ is. absurd (true≢false (sym (c.is_of_switch.ensures.1 (
        subst (IsLabel here) (sym to_is) is.label,
        ap (is_switch here c.args.site.now.track.left_out) to_is ∙ is.to_switch,
      )) ∙ c.if-not-is_of_switch.true)),
    )

pub place-requires-2 : goal.place-requires-2
place-requires-2 c =
    subst (λ (ts : List (List ℤ)). IsLabel ts c.new-to.result)
    (sym (c.tri-tri.ensures.value ∙ ap (triangulation c.args.atlas.now) c.tri.ensures))
    (c.is_of_switch.ensures.0 c.if-not-is_of_switch.false).0

pub returns-then-not-is_walk : goal.returns-then-not-is_walk
returns-then-not-is_walk c =
    let here : List (List ℤ) = triangulation c.args.atlas.now c.args.site.now.track.tri in
    let triangles : ℕ → ℕ = vertex_image c.args.site.now.map in
    let same : to_z w32 (of_z w32 c.args.anchor.now.to) ≡ c.args.anchor.now.to = search rules in
    let tri_is : c.tri-tri.result.now ≡ here =
    c.tri-tri.ensures.value ∙ ap (triangulation c.args.atlas.now) c.tri.ensures in
    let start_is : c.vertex-start.result ≡ triangles (triangle_of here c.args.s) =
    c.vertex-start.ensures
    ∙ ap triangles (c.place.ensures.triangle ∙ ap (λ (ts : List (List ℤ)). triangle_of ts c.args.s) tri_is) in
    let end_is : c.place-2.result.0 ≡ triangle_of here c.args.anchor.now.to =
    c.place-2.ensures.triangle ∙ ap (λ (ts : List (List ℤ)). triangle_of ts c.new-to.result) tri_is
    ∙ ap (triangle_of here) (c.new-to.ensures ∙ same) in (
      λ h. absurd (true≢false (sym h)),
      λ is. absurd (true≢false (sym (c.is_walk.ensures.1
          (same_walk here c.tri-tri.result.now (triangles (triangle_of here c.args.s)) c.vertex-start.result
          (triangle_of here c.args.anchor.now.to) c.place-2.result.0 c.args.anchor.now.connect.items c.deref.result.now
          (sym tri_is) (sym start_is) (sym c.deref.ensures.value) (sym end_is) is.walk))
          ∙ c.if-not-is_walk.true)),
    )

pub returns : goal.returns
returns c =
    let here : List (List ℤ) = triangulation c.args.atlas.now c.args.site.now.track.tri in
    let triangles : ℕ → ℕ = vertex_image c.args.site.now.map in
    let named : to_z w32 (of_z w32 c.args.anchor.now.switch) ≡ c.args.anchor.now.switch = search rules in
    let same : to_z w32 (of_z w32 c.args.anchor.now.to) ≡ c.args.anchor.now.to = search rules in
    let to_is : c.new-to.result ≡ c.args.anchor.now.to = c.new-to.ensures ∙ same in
    let tri_is : c.tri-tri.result.now ≡ here =
    c.tri-tri.ensures.value ∙ ap (triangulation c.args.atlas.now) c.tri.ensures in
    let start_is : c.vertex-start.result ≡ triangles (triangle_of here c.args.s) =
    c.vertex-start.ensures
    ∙ ap triangles (c.place.ensures.triangle ∙ ap (λ (ts : List (List ℤ)). triangle_of ts c.args.s) tri_is) in
    let end_is : c.place-2.result.0 ≡ triangle_of here c.args.anchor.now.to =
    c.place-2.ensures.triangle ∙ ap (λ (ts : List (List ℤ)). triangle_of ts c.new-to.result) tri_is
    ∙ ap (triangle_of here) to_is in
    let switch = c.is_of_switch.ensures.0 c.if-not-is_of_switch.false in (
      λ h. record {
        named = sym (c.new.ensures ∙ named)
            ∙ c.letter_laws.ensures.agree c.new.result c.args.s c.ne.result c.ne.ensures c.if-ne.false;
        label = subst (IsLabel here) to_is switch.0;
        to_switch = ap (is_switch here c.args.site.now.track.left_out) (sym to_is) ∙ switch.1;
        walk =
            same_walk c.tri-tri.result.now here c.vertex-start.result (triangles (triangle_of here c.args.s))
            c.place-2.result.0 (triangle_of here c.args.anchor.now.to) c.deref.result.now
            c.args.anchor.now.connect.items tri_is start_is c.deref.ensures.value end_is
            (c.is_walk.ensures.0 c.if-not-is_walk.false);
        reduced = subst IsReduced c.deref-2.ensures.value (c.is_reduced.ensures.0 h);
      },
      λ is. c.is_reduced.ensures.1 (subst IsReduced (sym c.deref-2.ensures.value) is.reduced),
    )
