use Rattle.std.proofs.Common.{◌≡◌, ℤ, List, Option, None, Some, ◌∙◌, ap, subst, sym}
use Rattle.std.specs.List.{All}
use Rattle.std.specs.Option.{IfNone}
use Rattle.std.proofs.lemmas.Option.{IfSome_then}
use Rattle.std.proofs.lemmas.List.Elements.{All-get_or}
use Rattle.tri_atlas.specs.Arena.{triangulation}
use Rattle.free_groupoid.specs.Walks.{DualWalk}
use Rattle.multicurve_cert.specs.Cycles.{AreCycleWalks, IsCycle}
use Rattle.cycle_stages.specs.inside.OpenWalks.{HasNoOpen, IsFirstOpen}
use Rattle.cycle_stages.proofs.OpenCycles.{each_walk, first_open_in, none_open}
use Rattle.cycle_stages.proofs.open_cycles.open_cycle.Goals as goal

are_walks : (ts triples : List (List ℤ)) (words : List (List ℤ)) (items walks : List DualWalk) → ts ≡ triples
    → walks ≡ items → AreCycleWalks ts words items → AreCycleWalks triples words walks
are_walks ts triples words items walks there same are =
    subst (AreCycleWalks triples words) (sym same) (subst (λ (us : List (List ℤ)). AreCycleWalks us words items) there are)

none_then : {T : Type 0} (o : Option T) {P Q : Type 0} → IfNone o P → (P → Q) → IfNone o Q
none_then None h f = f h
none_then (Some x) h f = tt

pub first_open-requires : goal.first_open-requires
first_open-requires c k d inside =
    let triples : List (List ℤ) = triangulation c.args.atlas.now 0 in
    let found = c.in_ok-cycles.ensures.all in
    All-get_or (λ (w : DualWalk). IsCycle triples w.letters) c.deref.result.now k d inside
    (each_walk triples found.0 c.deref.result.now
    (are_walks _ triples found.0 _ c.deref.result.now
    (c.tri.ensures.value ∙ ap (triangulation c.args.atlas.now) c.base.ensures.number) c.deref.ensures.value found.1))

pub returns-clause-some : goal.returns-clause-some
returns-clause-some c =
    let triples : List (List ℤ) = triangulation c.args.atlas.now 0 in
    let found = c.in_ok-cycles.ensures.all in
    IfSome_then c.first_open.result c.first_open.ensures.some
    (λ w first. first_open_in c.args.atlas.now found.0 c.deref.result.now
    (are_walks _ triples found.0 _ c.deref.result.now
    (c.tri.ensures.value ∙ ap (triangulation c.args.atlas.now) c.base.ensures.number) c.deref.ensures.value found.1)
    w first)

pub returns-clause-none : goal.returns-clause-none
returns-clause-none c =
    let triples : List (List ℤ) = triangulation c.args.atlas.now 0 in
    let found = c.in_ok-cycles.ensures.all in
    none_then c.first_open.result c.first_open.ensures.none
    (none_open triples found.0 c.deref.result.now
    (are_walks _ triples found.0 _ c.deref.result.now
    (c.tri.ensures.value ∙ ap (triangulation c.args.atlas.now) c.base.ensures.number) c.deref.ensures.value found.1))
