use Rattle.std.proofs.Common.{ℕ, ℤ, List, ◌≡◌, ◌<◌, length, sym, ◌∙◌, ap, subst, arith, to_z, of_z, w32, rules}
use Rattle.ideal_tri.specs.Triangulations.{IsLabel, triangle_of}
use Rattle.tri_atlas.specs.Arena.{triangulation}
use Rattle.free_groupoid.specs.GroupoidMaps.{substitution, vertex_image}
use Rattle.train_track.specs.Branches.{letter_at}
use Rattle.train_track.specs.Tracks.{switches_of}
use Rattle.carry_map.specs.AnchorAnswers.{IsAnchored, IsReachedFrom, place_at}
use Rattle.carry_map.proofs.FoundAnchors.{switch_read, found_more, first_found, reached_connected}
use Rattle.carry_map.proofs.FoundAnchors.{begins_with, first_reached, all_seen}
use Rattle.carry_map.proofs.FoundPlaces.{found_none}
use Rattle.carry_map.proofs.FirstOfLists.{first_of_all}
use Rattle.carry_map.proofs.SwitchPlaces.{switch_label}
use Rattle.carry_map.proofs.anchors.anchors.Goals as goal

pub places-requires-clause-label : goal.places-requires-clause-label
places-requires-clause-label c =
    let here : List (List ℤ) = triangulation c.args.atlas.now c.args.track.now.tri in
    let (within, is) = switch_read here c.args.track.now _ c.loop-s.s-index c.s-item.result c.requires.here.on
    c.switches-s-items.ensures c.loop-s-test.true c.s-item.is in
    subst (IsLabel here) (sym is) (switch_label here c.args.track.now.left_out c.loop-s.s-index within)

pub returns-then-len-eq0-clause-refused : goal.returns-then-len-eq0-clause-refused
returns-then-len-eq0-clause-refused c cap =
    let here : List (List ℤ) = triangulation c.args.atlas.now c.args.track.now.tri in
    let (within, is) = switch_read here c.args.track.now _ c.loop-s.s-index c.s-item.result c.requires.here.on
    c.switches-s-items.ensures c.loop-s-test.true c.s-item.is in
    let same : to_z w32 (of_z w32 c.get.result) ≡ c.get.result = search rules in
    let none : length c.in_ok-first.first ≡ 0 = search rules in
    let (all, are, first) = c.in_ok-first.ensures.places in (
      c.loop-s.s-index,
      record {
        within = within;
        without =
            found_none here c.args.track.now.left_out (substitution c.args.psi.now.images) c.loop-s.s-index
            c.s-item.result 1 all c.in_ok-first.first is are first (omega arith) none;
        before = λ k less. (place_at c.loop-s.anchors.items k, (c.loop-s.invariant.1 k less).0);
      },
      same ∙ c.get.ensures ∙ is,
    )

pub loop-s-preserved : goal.loop-s-preserved
loop-s-preserved c =
    let here : List (List ℤ) = triangulation c.args.atlas.now c.args.track.now.tri in
    let out : List ℤ = c.args.track.now.left_out in
    let start : ℤ → ℕ = λ x. vertex_image c.args.psi.now (triangle_of here x) in
    let (within, is) = switch_read here c.args.track.now _ c.loop-s.s-index c.s-item.result c.requires.here.on
    c.switches-s-items.ensures c.loop-s-test.true c.s-item.is in
    let some : 0 < length c.in_ok-first.first = search rules in
    let (rest, begins) = begins_with c.in_ok-first.first c.in_ok-place.field-0 some c.in_ok-place.ensures in
    found_more
    (λ k p. IsAnchored here out (substitution c.args.psi.now.images) k p
    × IsReachedFrom here out (start (letter_at c.args.track.now.switches k)) p)
    c.loop-s.anchors.items c.push.new.self.items c.loop-s.s-index c.in_ok-place.field-0 c.loop-s.invariant.0
    c.in_ok-push.ensures.items c.loop-s.invariant.1 (
      let (all, are, first) = c.in_ok-first.ensures.places in
          first_found here out (substitution c.args.psi.now.images) c.loop-s.s-index c.s-item.result all
          c.in_ok-place.field-0 is are (first_of_all all c.in_ok-place.field-0 rest (sym begins ∙ first)),
      subst (λ (x : ℤ). IsReachedFrom here out (start x) c.in_ok-place.field-0)
          (is ∙ ap (λ (xs : List ℤ). letter_at xs c.loop-s.s-index) (sym c.requires.here.on.switches))
          (first_reached here out (start c.s-item.result) _ c.in_ok-place.field-0 c.in_ok-first.ensures.reached
          (rest, begins)),
    )

pub returns-clause-first : goal.returns-clause-first
returns-clause-first c =
    let here : List (List ℤ) = triangulation c.args.atlas.now c.args.track.now.tri in
    let as_many : length c.loop-s.anchors.items ≡ length (switches_of here c.args.track.now.left_out) =
    all_seen c.switches-s-items.result.now c.args.track.now.switches
    (switches_of here c.args.track.now.left_out) c.loop-s.s-index _ c.switches-s-items.ensures
    c.requires.here.on.switches c.loop-s.auto.s-index-end c.loop-s-test.false c.loop-s.invariant.0 in
    record {
      one_each = as_many;
      first = λ i less. (c.loop-s.invariant.1 i (let long = c.loop-s.invariant.0 in omega arith)).0;
    }

pub returns-clause-connected : goal.returns-clause-connected
returns-clause-connected c =
    let here : List (List ℤ) = triangulation c.args.atlas.now c.args.track.now.tri in
    let out : List ℤ = c.args.track.now.left_out in
    let start : ℤ → ℕ = λ x. vertex_image c.args.psi.now (triangle_of here x) in
    let as_many : length c.loop-s.anchors.items ≡ length (switches_of here c.args.track.now.left_out) =
    all_seen c.switches-s-items.result.now c.args.track.now.switches
    (switches_of here c.args.track.now.left_out) c.loop-s.s-index _ c.switches-s-items.ensures
    c.requires.here.on.switches c.loop-s.auto.s-index-end c.loop-s-test.false c.loop-s.invariant.0 in
    reached_connected here out (vertex_image c.args.psi.now) c.loop-s.anchors.items as_many
    (λ k less. subst (λ (xs : List ℤ). IsReachedFrom here out (start (letter_at xs k))
    (place_at c.loop-s.anchors.items k)) c.requires.here.on.switches
    (c.loop-s.invariant.1 k (let long = c.loop-s.invariant.0 in omega arith)).1)
