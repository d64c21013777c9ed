use Rattle.std.proofs.Common.{ℕ, ℤ, List, [], ◌≡◌, ◌<◌, ◌^◌, ◌-◌, length, sym, ◌∙◌, subst, arith, rules}
use Rattle.std.proofs.Common.{to_z, of_z, w32}
use Rattle.ideal_tri.specs.Triangulations.{IsLabel}
use Rattle.tri_atlas.specs.Arena.{triangulation}
use Rattle.free_groupoid.specs.GroupoidMaps.{substitution, vertex_image}
use Rattle.train_track.specs.Tracks.{switches_of}
use Rattle.carry_map.proofs.FoundAnchors.{switch_read, all_seen}
use Rattle.carry_map.proofs.FoundPlaces.{IsFound, have_found, first_empty, found_none, found_some}
use Rattle.carry_map.proofs.MiddleSteps.{grown}
use Rattle.carry_map.proofs.SwitchPlaces.{switch_label}
use Rattle.carry_map.proofs.middle.all_places.Goals as goal

pub places-requires-clause-label : goal.places-requires-clause-label
places-requires-clause-label c =
    let here : List (List ℤ) = triangulation c.args.atlas.now c.args.track.now.tri in
    let (within, is) = switch_read here c.args.track.now _ c.loop-s.s-index c.s-item.result c.requires.here.on
    c.switches-s-items.ensures c.loop-s-test.true c.s-item.is in
    subst (IsLabel here) (sym is) (switch_label here c.args.track.now.left_out c.loop-s.s-index within)

pub returns-then-len-eq0-clause-refused : goal.returns-then-len-eq0-clause-refused
returns-then-len-eq0-clause-refused c cap =
    let here : List (List ℤ) = triangulation c.args.atlas.now c.args.track.now.tri in
    let (within, is) = switch_read here c.args.track.now _ c.loop-s.s-index c.s-item.result c.requires.here.on
    c.switches-s-items.ensures c.loop-s-test.true c.s-item.is in
    let same : to_z w32 (of_z w32 c.get.result) ≡ c.get.result = search rules in
    let none : length c.in_ok-found.found ≡ 0 = search rules in
    let few : length c.in_ok-found.found < 2 ^ 64 - 1 = omega arith in
    let (all, are, first) = c.in_ok-found.ensures.places in (
      c.loop-s.s-index,
      first_empty here c.args.track.now.left_out (substitution c.args.psi.now.images) (vertex_image c.args.psi.now)
          c.loop-s.all.items c.loop-s.s-index within c.loop-s.invariant.1
          (found_none here c.args.track.now.left_out (substitution c.args.psi.now.images) c.loop-s.s-index
          c.s-item.result (2 ^ 64 - 1) all c.in_ok-found.found is are first few none),
      same ∙ c.get.ensures ∙ is,
    )

pub loop-s-preserved : goal.loop-s-preserved
loop-s-preserved c =
    let here : List (List ℤ) = triangulation c.args.atlas.now c.args.track.now.tri in
    let out : List ℤ = c.args.track.now.left_out in
    let f : ℤ → List ℤ = substitution c.args.psi.now.images in
    let (within, is) = switch_read here c.args.track.now _ c.loop-s.s-index c.s-item.result c.requires.here.on
    c.switches-s-items.ensures c.loop-s-test.true c.s-item.is in
    let some : 0 < length c.in_ok-found.found = search rules in
    let few : length c.in_ok-found.found < 2 ^ 64 - 1 =
    (let long = c.len.ensures.value in let short = c.len.ensures.few in omega arith) in
    let (all, are, first) = c.in_ok-found.ensures.places in
    grown [] (λ k ps. IsFound here out f (vertex_image c.args.psi.now) k ps)
    c.loop-s.all.items c.push.new.self.items c.loop-s.s-index c.in_ok-found.found c.loop-s.invariant.0
    c.in_ok-push.ensures.items c.loop-s.invariant.1
    (found_some here out f (vertex_image c.args.psi.now) c.loop-s.s-index c.s-item.result (2 ^ 64 - 1) all
    c.in_ok-found.found is are first few some c.in_ok-found.ensures.reached)

pub returns-clause-places : goal.returns-clause-places
returns-clause-places c =
    let here : List (List ℤ) = triangulation c.args.atlas.now c.args.track.now.tri in
    let as_many : length c.loop-s.all.items ≡ length (switches_of here c.args.track.now.left_out) =
    all_seen c.switches-s-items.result.now c.args.track.now.switches
    (switches_of here c.args.track.now.left_out) c.loop-s.s-index _ c.switches-s-items.ensures
    c.requires.here.on.switches c.loop-s.auto.s-index-end c.loop-s-test.false c.loop-s.invariant.0 in
    (have_found here c.args.track.now.left_out (substitution c.args.psi.now.images) (vertex_image c.args.psi.now)
    c.loop-s.all.items as_many
    (λ k less. c.loop-s.invariant.1 k (subst (λ (n : ℕ). k < n) c.loop-s.invariant.0 less))).0

pub returns-clause-reached : goal.returns-clause-reached
returns-clause-reached c =
    let here : List (List ℤ) = triangulation c.args.atlas.now c.args.track.now.tri in
    λ k less. (c.loop-s.invariant.1 k
    (subst (λ (n : ℕ). k < n) c.loop-s.invariant.0 less)).reached
