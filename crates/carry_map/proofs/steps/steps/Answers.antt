use Rattle.std.proofs.Common.{ℕ, ℤ, List, ◌<◌, ◌≤◌, ◌-◌, [], length, get_or, sym, ◌∙◌, ap, subst}
use Rattle.tri_atlas.specs.Arena.{triangulation}
use Rattle.free_groupoid.specs.Walks.{DualWalk}
use Rattle.free_groupoid.specs.GroupoidMaps.{substitution, vertex_image}
use Rattle.train_track.specs.Branches.{IsBranch}
use Rattle.carry_map.specs.MiddleAnchors.{switches_between}
use Rattle.carry_map.specs.inside.Steps.{AreFirsts, AreLasts}
use Rattle.carry_map.proofs.MiddleSteps.{steps_more, all_steps, last_below}
use Rattle.carry_map.proofs.PickedPlaces.{picked_connected}
use Rattle.carry_map.proofs.WalkLists.{read_through, words_long}
use Rattle.carry_map.proofs.steps.steps.Goals as goal

pub first_places-requires : goal.first_places-requires
first_places-requires c i less = c.requires.places.some i less

pub last_places-requires : goal.last_places-requires
last_places-requires c i less = c.requires.places.some i less

pub gap-requires-clause-firsts : goal.gap-requires-clause-firsts
gap-requires-clause-firsts c =
    picked_connected (triangulation c.args.atlas.now c.args.track.now.tri) c.args.track.now.left_out
    (vertex_image c.args.psi.now) c.args.all.now (λ i. 0) c.deref.result.now
    c.requires.places.one_list_each c.requires.reached c.requires.places.some
    (subst (AreFirsts c.args.all.now) (sym c.deref.ensures.value) c.in_ok-firsts.ensures)

pub gap-requires-clause-lasts : goal.gap-requires-clause-lasts
gap-requires-clause-lasts c =
    picked_connected (triangulation c.args.atlas.now c.args.track.now.tri) c.args.track.now.left_out
    (vertex_image c.args.psi.now) c.args.all.now (λ i. length (get_or c.args.all.now i []) - 1)
    c.deref-in-loop-branch.result.now c.requires.places.one_list_each c.requires.reached
    (λ i less. last_below (length (get_or c.args.all.now i [])) (c.requires.places.some i less))
    (subst (AreLasts c.args.all.now) (sym c.deref-in-loop-branch.ensures.value) c.in_ok-lasts.ensures)

pub gap-requires-clause-branch : goal.gap-requires-clause-branch
gap-requires-clause-branch c =
    let less : c.loop-branch.branch-index < length c.args.track.now.branches =
    subst (λ (bs : List DualWalk). c.loop-branch.branch-index < length bs) c.branches-branch-items.ensures
    c.loop-branch-test.true in
    subst (IsBranch (triangulation c.args.atlas.now c.args.track.now.tri) c.args.track.now.left_out)
    (sym (read_through (λ (w : DualWalk). w.letters) c.args.track.now.branches c.loop-branch.branch-index
    c.branch-item.result [] less
    (c.branch-item.is ∙ ap (λ (bs : List DualWalk). get_or bs c.loop-branch.branch-index c.branch-item.result)
    c.branches-branch-items.ensures)))
    (c.requires.map.here.on.branches.branch c.loop-branch.branch-index []
    (subst (λ (n : ℕ). c.loop-branch.branch-index < n) (sym (words_long c.args.track.now.branches)) less))

pub push_steps-requires-clause-branch : goal.push_steps-requires-clause-branch
push_steps-requires-clause-branch c =
    let less : c.loop-branch.branch-index < length c.args.track.now.branches =
    subst (λ (bs : List DualWalk). c.loop-branch.branch-index < length bs) c.branches-branch-items.ensures
    c.loop-branch-test.true in
    subst (IsBranch (triangulation c.args.atlas.now c.args.track.now.tri) c.args.track.now.left_out)
    (sym (read_through (λ (w : DualWalk). w.letters) c.args.track.now.branches c.loop-branch.branch-index
    c.branch-item.result [] less
    (c.branch-item.is ∙ ap (λ (bs : List DualWalk). get_or bs c.loop-branch.branch-index c.branch-item.result)
    c.branches-branch-items.ensures)))
    (c.requires.map.here.on.branches.branch c.loop-branch.branch-index []
    (subst (λ (n : ℕ). c.loop-branch.branch-index < n) (sym (words_long c.args.track.now.branches)) less))

pub loop-branch-preserved : goal.loop-branch-preserved
loop-branch-preserved c =
    let here : List (List ℤ) = triangulation c.args.atlas.now c.args.track.now.tri in
    let less : c.loop-branch.branch-index < length c.args.track.now.branches =
    subst (λ (bs : List DualWalk). c.loop-branch.branch-index < length bs) c.branches-branch-items.ensures
    c.loop-branch-test.true in
    steps_more c.args.track.now.switches
    (switches_between here c.args.track.now.left_out (substitution c.args.psi.now.images) c.args.all.now)
    c.args.track.now.branches c.loop-branch.steps.items c.push_steps.new.steps.items c.in_ok-gap.gap
    c.loop-branch.branch-index c.branch-item.result less
    (c.branch-item.is ∙ ap (λ (bs : List DualWalk). get_or bs c.loop-branch.branch-index c.branch-item.result)
    c.branches-branch-items.ensures)
    c.loop-branch.invariant
    (c.in_ok-gap.ensures c.args.all.now
    (subst (AreFirsts c.args.all.now) (sym c.deref.ensures.value) c.in_ok-firsts.ensures)
    (subst (AreLasts c.args.all.now) (sym c.deref-in-loop-branch.ensures.value) c.in_ok-lasts.ensures))
    c.in_ok-push_steps.ensures

pub returns : goal.returns
returns c =
    all_steps c.args.track.now.switches
    (switches_between (triangulation c.args.atlas.now c.args.track.now.tri) c.args.track.now.left_out
    (substitution c.args.psi.now.images) c.args.all.now)
    c.args.track.now.branches c.loop-branch.steps.items c.loop-branch.branch-index
    (subst (λ (bs : List DualWalk). length bs ≤ c.loop-branch.branch-index) c.branches-branch-items.ensures
    c.loop-branch-test.false)
    c.loop-branch.invariant
