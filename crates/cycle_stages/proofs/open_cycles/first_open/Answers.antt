use Rattle.std.proofs.Common.{◌≡◌, ◌<◌, ◌∙◌, ℕ, ℤ, List, ap, length, sym, subst, arith}
use Rattle.std.proofs.lemmas.List.{get_or_default}
use Rattle.std.proofs.lemmas.List.Elements.{All-get_or}
use Rattle.tri_atlas.specs.Arena.{triangulation}
use Rattle.edge_coords.specs.Coordinates.{Coordinates}
use Rattle.free_groupoid.specs.Walks.{DualWalk, walk_at}
use Rattle.ideal_tri.specs.PeripheralParts.{HasFreeCorners}
use Rattle.multicurve_cert.specs.Cycles.{IsCycle, cycle_vector}
use Rattle.cycle_stages.specs.OpenCycles.{IsOpen}
use Rattle.cycle_stages.specs.inside.OpenWalks.{walk_vector}
use Rattle.cycle_stages.proofs.OpenCycles.{open_where_free, shut_more, shut_where_round}
use Rattle.cycle_stages.proofs.open_cycles.first_open.Goals as goal

pub returns-in-None-clause-some : goal.returns-in-None-clause-some
returns-in-None-clause-some c =
    let place = c.loop-cycle.cycle-index in
    let walks : List DualWalk = c.args.cycles.now in
    let triples : List (List ℤ) = triangulation c.args.atlas.now 0 in
    let walk : DualWalk = c.cycle-item.result in
    let w : Coordinates = c.cycle_coords-w.result in
    let is : walk ≡ walk_at walks place =
    c.cycle-item.is ∙ get_or_default walks place walk _ c.loop-cycle-test.true in
    let base : w.tri ≡ 0 = ap (λ (k : Coordinates). k.tri) c.cycle_coords-w.ensures.value in
    let numbers : w.numbers ≡ cycle_vector triples walk.letters =
    ap (λ (k : Coordinates). k.numbers) c.cycle_coords-w.ensures.value in
    let cycle : IsCycle triples walk.letters =
    subst (λ (v : DualWalk). IsCycle triples v.letters) (sym is)
    (All-get_or (λ (v : DualWalk). IsCycle triples v.letters) walks place _ c.loop-cycle-test.true c.requires) in
    let free : HasFreeCorners (triangulation c.args.atlas.now w.tri) w.numbers = c.in-None.ensures.none in
    record {
      here = c.cycle_coords-w.ensures.here;
      base = base;
      place = place;
      within = c.loop-cycle-test.true;
      vector = numbers ∙ ap (λ (v : DualWalk). cycle_vector triples v.letters) is;
      is_open = subst (IsOpen triples) (sym numbers)
          (open_where_free triples walk.letters cycle
          (subst (HasFreeCorners triples) numbers
          (subst (λ (t : ℕ). HasFreeCorners (triangulation c.args.atlas.now t) w.numbers) base free)));
      first = c.loop-cycle.invariant;
    }

pub loop-cycle-preserved : goal.loop-cycle-preserved
loop-cycle-preserved c =
    let triples : List (List ℤ) = triangulation c.args.atlas.now 0 in
    let walk : DualWalk = c.cycle-item.result in
    let w : Coordinates = c.cycle_coords-w.result in
    let is : walk ≡ walk_at c.args.cycles.now c.loop-cycle.cycle-index =
    c.cycle-item.is ∙ get_or_default c.args.cycles.now c.loop-cycle.cycle-index walk _ c.loop-cycle-test.true in
    let base : w.tri ≡ 0 = ap (λ (k : Coordinates). k.tri) c.cycle_coords-w.ensures.value in
    let numbers : w.numbers ≡ walk_vector triples c.args.cycles.now c.loop-cycle.cycle-index =
    ap (λ (k : Coordinates). k.numbers) c.cycle_coords-w.ensures.value
    ∙ ap (λ (v : DualWalk). cycle_vector triples v.letters) is in
    shut_more triples c.args.cycles.now c.loop-cycle.cycle-index c.loop-cycle.invariant
    (subst (λ (v : List ℕ). ¬ IsOpen triples v) numbers
    (subst (λ (t : ℕ). ¬ IsOpen (triangulation c.args.atlas.now t) w.numbers) base
    (shut_where_round _ w.numbers _ c.in-Some.ensures.some.here)))

pub returns-clause-none : goal.returns-clause-none
returns-clause-none c i inside = c.loop-cycle.invariant i (omega (arith, inside, c.loop-cycle-test.false))
