use Rattle.std.proofs.Common.{◌≡◌, ◌<◌, ◌∙◌, ℤ, List, length, map, ap, sym, subst}
use Rattle.std.proofs.lemmas.Result.{IfOk-weaker}
use Rattle.tri_atlas.specs.Arena.{Arena, triangulation}
use Rattle.free_groupoid.specs.Walks.{DualWalk}
use Rattle.edge_coords.specs.Coordinates.{Coordinates}
use Rattle.multicurve_cert.specs.Cycles.{AreCycleWalks, cycle_vector}
use Rattle.multicurve_cert.proofs.ByCycles.{by_cycles, each_walk}
use Rattle.multicurve_cert.proofs.curve_search.search.Goals as goal

pub vectors-requires : goal.vectors-requires
vectors-requires c =
    let arena : Arena = c.args.atlas.now in
    let words : List (List ℤ) = c.in_ok-cycles.ensures.all.0 in
    let base : c.tri.result.now ≡ triangulation arena 0 =
    c.tri.ensures.value ∙ ap (triangulation arena) c.base.ensures.number in
    let are : AreCycleWalks (triangulation arena 0) words c.deref.result.now =
    subst (λ (ts : List (List ℤ)). AreCycleWalks ts words c.deref.result.now) base
    (subst (AreCycleWalks c.tri.result.now words) (sym c.deref.ensures.value) c.in_ok-cycles.ensures.all.1) in
    each_walk (triangulation arena 0) words c.deref.result.now are

pub returns-clause-answer : goal.returns-clause-answer
returns-clause-answer c =
    let arena : Arena = c.args.atlas.now in
    let words : List (List ℤ) = c.in_ok-cycles.ensures.all.0 in
    let base : c.tri.result.now ≡ triangulation arena 0 =
    c.tri.ensures.value ∙ ap (triangulation arena) c.base.ensures.number in
    let are : AreCycleWalks (triangulation arena 0) words c.deref.result.now =
    subst (λ (ts : List (List ℤ)). AreCycleWalks ts words c.deref.result.now) base
    (subst (AreCycleWalks c.tri.result.now words) (sym c.deref.ensures.value) c.in_ok-cycles.ensures.all.1) in
    let some : 0 < length c.deref.result.now =
    subst (λ (ws : List DualWalk). 0 < length ws) (sym c.deref.ensures.value) c.in_ok-cycles.ensures.some in
    let numbers : map (λ (v : Coordinates). v.numbers) c.deref-2.result.now
    ≡ map (λ (w : DualWalk). cycle_vector (triangulation arena 0) w.letters) c.deref.result.now =
    ap (map (λ (v : Coordinates). v.numbers)) c.deref-2.ensures.value ∙ c.in_ok-vectors.ensures.value in
    IfOk-weaker c.search_among.result _ _
    (λ answer h. by_cycles (triangulation arena 0) words c.deref.result.now are c.deref-2.result.now numbers some _
    c.args.budget answer h)
    c.search_among.ensures.answer
