use Rattle.std.proofs.Common.{ℕ, List, ◌∙◌, ap, length, subst, sym}
use Rattle.tri_atlas.specs.Arena.{triangulation}
use Rattle.free_groupoid.specs.GroupoidMaps.{substitution, vertex_image}
use Rattle.train_track.specs.Branches.{words_of}
use Rattle.carry_map.specs.MiddleAnchors.{HavePlaces}
use Rattle.carry_map.specs.inside.Steps.{AreAllReached}
use Rattle.carry_map.proofs.MiddleChosen.{counts_positive, steps_within, heights_long, on_within, back_within}
use Rattle.carry_map.proofs.MiddleChosen.{numbers_within, connected, chosen}
use Rattle.carry_map.proofs.middle.middle_anchors.Goals as goal

pub steps-requires-clause-places : goal.steps-requires-clause-places
steps-requires-clause-places c =
    subst (HavePlaces (triangulation c.args.atlas.now c.args.track.now.tri) c.args.track.now.left_out
    (substitution c.args.psi.now.images))
    (sym c.as_slice-all.ensures.value) c.in_ok-found.ensures.places

pub steps-requires-clause-reached : goal.steps-requires-clause-reached
steps-requires-clause-reached c =
    subst (AreAllReached (triangulation c.args.atlas.now c.args.track.now.tri) c.args.track.now.left_out
    (vertex_image c.args.psi.now))
    (sym c.as_slice-all.ensures.value) c.in_ok-found.ensures.reached

pub greatest_heights-requires-clause-some : goal.greatest_heights-requires-clause-some
greatest_heights-requires-clause-some c =
    counts_positive
    c.label_laws.ensures (words_of c.args.track.now.branches) c.requires.here.on.branches.branch
    c.as_slice-all.ensures.value c.in_ok-found.ensures.places c.deref.ensures.value c.in_ok-counts.ensures
    c.requires.here.on.switches c.deref-2.ensures.value c.in_ok-steps.ensures

pub greatest_heights-requires-clause-within : goal.greatest_heights-requires-clause-within
greatest_heights-requires-clause-within c =
    steps_within
    c.label_laws.ensures (words_of c.args.track.now.branches) c.requires.here.on.branches.branch
    c.as_slice-all.ensures.value c.in_ok-found.ensures.places c.deref.ensures.value c.in_ok-counts.ensures
    c.requires.here.on.switches c.deref-2.ensures.value c.in_ok-steps.ensures

pub middle_numbers-requires-clause-two_each : goal.middle_numbers-requires-clause-two_each
middle_numbers-requires-clause-two_each c =
    heights_long
    c.label_laws.ensures (words_of c.args.track.now.branches) c.requires.here.on.branches.branch
    c.as_slice-all.ensures.value c.in_ok-found.ensures.places c.deref.ensures.value c.in_ok-counts.ensures
    c.requires.here.on.switches c.deref-2.ensures.value c.in_ok-steps.ensures c.deref-3.ensures.value
    c.in_ok-heights.ensures

pub middle_numbers-requires-clause-on : goal.middle_numbers-requires-clause-on
middle_numbers-requires-clause-on c =
    on_within
    c.label_laws.ensures (words_of c.args.track.now.branches) c.requires.here.on.branches.branch
    c.as_slice-all.ensures.value c.in_ok-found.ensures.places c.deref.ensures.value c.in_ok-counts.ensures
    c.requires.here.on.switches c.deref-2.ensures.value c.in_ok-steps.ensures c.deref-3.ensures.value
    c.in_ok-heights.ensures

pub middle_numbers-requires-clause-back : goal.middle_numbers-requires-clause-back
middle_numbers-requires-clause-back c =
    back_within
    c.label_laws.ensures (words_of c.args.track.now.branches) c.requires.here.on.branches.branch
    c.as_slice-all.ensures.value c.in_ok-found.ensures.places c.deref.ensures.value c.in_ok-counts.ensures
    c.requires.here.on.switches c.deref-2.ensures.value c.in_ok-steps.ensures c.deref-3.ensures.value
    c.in_ok-heights.ensures

pub picked-requires-clause-as_many : goal.picked-requires-clause-as_many
picked-requires-clause-as_many c =
    ap (λ (xs : List ℕ). length xs) c.deref-4.ensures.value ∙ c.in_ok-numbers.ensures.as_many

pub picked-requires-clause-within : goal.picked-requires-clause-within
picked-requires-clause-within c =
    numbers_within
    c.label_laws.ensures (words_of c.args.track.now.branches) c.requires.here.on.branches.branch
    c.as_slice-all.ensures.value c.in_ok-found.ensures.places c.deref.ensures.value c.in_ok-counts.ensures
    c.requires.here.on.switches c.deref-2.ensures.value c.in_ok-steps.ensures c.deref-3.ensures.value
    c.in_ok-heights.ensures c.deref-4.ensures.value c.in_ok-numbers.ensures.halfway

pub returns-clause-middle : goal.returns-clause-middle
returns-clause-middle c =
    chosen
    c.label_laws.ensures (words_of c.args.track.now.branches) c.requires.here.on.branches.branch
    c.as_slice-all.ensures.value c.in_ok-found.ensures.places c.deref.ensures.value c.in_ok-counts.ensures
    c.requires.here.on.switches c.deref-2.ensures.value c.in_ok-steps.ensures c.deref-3.ensures.value
    c.in_ok-heights.ensures c.deref-4.ensures.value c.in_ok-numbers.ensures.halfway c.in_ok-picked.ensures

pub returns-clause-connected : goal.returns-clause-connected
returns-clause-connected c =
    connected
    c.label_laws.ensures (words_of c.args.track.now.branches) c.requires.here.on.branches.branch
    c.as_slice-all.ensures.value c.in_ok-found.ensures.places c.deref.ensures.value c.in_ok-counts.ensures
    c.requires.here.on.switches c.deref-2.ensures.value c.in_ok-steps.ensures c.deref-3.ensures.value
    c.in_ok-heights.ensures c.deref-4.ensures.value c.in_ok-numbers.ensures.halfway c.in_ok-picked.ensures
    (vertex_image c.args.psi.now) c.in_ok-found.ensures.reached
