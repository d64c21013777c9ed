use Rattle.std.proofs.Common.{ℕ, ℤ, pos, List, [], ◌∷◌, ◌++◌, ◌≡◌, ◌<◌, ◌^◌, ◌∙◌, w32, sym, ap, subst, length, get_or, arith}
use Rattle.std.specs.List.{flat_map}
use Rattle.std.proofs.lemmas.Bool.Decides.{Decides-int_eq}
use Rattle.std.proofs.lemmas.Int.{to_z_pos}
use Rattle.std.proofs.lemmas.Slice.Eq.{slice_eq-Decides}
use Rattle.ideal_tri.specs.Labels.{inverse}
use Rattle.ideal_tri.specs.Triangulations.{IsLabel, triangle_of}
use Rattle.ideal_tri.specs.Words.{reduce}
use Rattle.free_groupoid.specs.GroupoidMaps.{substitution}
use Rattle.free_groupoid.specs.Walks.{DualWalk}
use Rattle.cert_text.specs.Certificates.{walks_of}
use Rattle.cert_checker.proofs.EquationTest.{equation_test, one_step}
use Rattle.cert_checker.proofs.LoopImages.{can_be_mapped}
use Rattle.cert_checker.proofs.WalkReading.{walk_count, walk_read}
use Rattle.cert_checker.proofs.inner_walks.is_equation.Goals as goal
use Rattle.cert_checker.proofs.inner_walks.is_equation.Goals.{After-new-x}

edge_is : (c : After-new-x) → c.new-x.result ≡ pos c.args.e
edge_is c =
    let small : c.args.e < 2 ^ 31 = omega (arith, c.requires.edge, c.edges.ensures.count, c.edges.ensures.size) in
    c.new-x.ensures ∙ to_z_pos w32 c.args.e small

pub place-there-requires : goal.place-there-requires
place-there-requires c =
    let before = (goal.at.place-there-requires c).After-new-x in
    subst (IsLabel c.args.tri.now) (sym (c.inverse.ensures ∙ ap inverse (edge_is before))) c.requires.edge

pub image-requires : goal.image-requires
image-requires c =
    let before = (goal.at.image-requires c).After-new-x in
    can_be_mapped c.args.tri.now c.args.map.now
    (record { start = c.place-here.result.0; letters = c.in_ok-vec.field-0.items }) c.requires.map
    (one_step c.args.tri.now c.new-x.result c.in_ok-vec.field-0.items c.place-here.result.0 c.in_ok-vec.ensures.items
    c.place-here.ensures.triangle c.place-here.ensures.within.0
    (subst (IsLabel c.args.tri.now) (sym (edge_is before)) c.requires.edge))

pub returns : goal.returns
returns c =
    let x : c.new-x.result ≡ pos c.args.e = edge_is (goal.at.returns c).After-new-x in
    let f : ℤ → List ℤ = substitution c.args.map.now.images in
    let ts : List (List ℤ) = c.args.tri.now in
    let paths : List (List ℤ) = walks_of c.args.paths.now in
    let letters : DualWalk → List ℤ = λ w. w.letters in
    let here : c.place-here.result.0 ≡ triangle_of ts (pos c.args.e) =
    c.place-here.ensures.triangle ∙ ap (triangle_of ts) x in
    let there : c.place-there.result.0 ≡ triangle_of ts (inverse (pos c.args.e)) =
    c.place-there.ensures.triangle ∙ ap (triangle_of ts) (c.inverse.ensures ∙ ap inverse x) in
    let count : length paths ≡ length c.args.paths.now = walk_count c.args.paths.now in
    let in_here : c.place-here.result.0 < length c.args.paths.now =
    omega (arith, c.place-here.ensures.within.0, c.requires.one_each, count) in
    let in_there : c.place-there.result.0 < length c.args.paths.now =
    omega (arith, c.place-there.ensures.within.0, c.requires.one_each, count) in
    let p : c.in_ok-labels.field-0.items ≡ get_or paths (triangle_of ts (pos c.args.e)) [] =
    c.in_ok-labels.ensures ∙ c.deref.ensures.value
    ∙ walk_read c.args.paths.now c.place-here.result.0 c.index-paths-here.result in_here c.index-paths-here.is
    ∙ ap (λ (k : ℕ). get_or paths k []) here in
    let q : c.deref-4.result.now ≡ get_or paths (triangle_of ts (inverse (pos c.args.e))) [] =
    c.deref-4.ensures.value ∙ c.in_ok-on.ensures ∙ c.deref-3.ensures.value
    ∙ walk_read c.args.paths.now c.place-there.result.0 c.index-paths-there.result in_there c.index-paths-there.is
    ∙ ap (λ (k : ℕ). get_or paths k []) there in
    let step : c.in_ok-vec.field-0.items ≡ pos c.args.e ∷ [] =
    c.in_ok-vec.ensures.items ∙ ap (λ (y : ℤ). y ∷ []) x in
    let image : c.deref-2.result.now ≡ reduce (flat_map f (pos c.args.e ∷ [])) =
    c.deref-2.ensures.value ∙ ap letters c.image-2.view_is ∙ ap letters c.in_ok-image.ensures.value
    ∙ ap (λ (w : List ℤ). reduce (flat_map f w)) step in
    let along : c.in_ok-along.along.items
    ≡ reduce (get_or paths (triangle_of ts (pos c.args.e)) [] ++ reduce (flat_map f (pos c.args.e ∷ []))) =
    c.in_ok-along.ensures ∙ ap (λ (w : List ℤ). reduce (w ++ c.deref-2.result.now)) p
    ∙ ap (λ (w : List ℤ). reduce (get_or paths (triangle_of ts (pos c.args.e)) [] ++ w)) image in
    let across : c.in_ok-joined.field-0.items
    ≡ reduce (pos c.args.e ∷ get_or paths (triangle_of ts (inverse (pos c.args.e))) []) =
    c.in_ok-joined.ensures ∙ ap (λ (w : List ℤ). reduce (w ++ c.deref-4.result.now)) step
    ∙ ap (λ (w : List ℤ). reduce (pos c.args.e ∷ w)) q in
    equation_test c.word_laws.ensures.reduction f (pos c.args.e)
    (get_or paths (triangle_of ts (pos c.args.e)) []) (get_or paths (triangle_of ts (inverse (pos c.args.e))) [])
    c.in_ok-along.along.items c.in_ok-joined.field-0.items c.eq.result along across
    (slice_eq-Decides Decides-int_eq c.in_ok-joined.field-0.items c.in_ok-along.along.items c.eq.result c.eq.ensures)
