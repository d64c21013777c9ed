use Rattle.std.proofs.Common.{ℤ, List, [], ◌∷◌, ◌≡◌, ◌∙◌, ap, subst}
use Rattle.ideal_tri.specs.Triangulations.{IsTriangulation, triangle_of}
use Rattle.tri_atlas.specs.Arena.{triangulation}
use Rattle.free_groupoid.specs.GroupoidMaps.{substitution, vertex_image}
use Rattle.carry_map.specs.inside.Rays.{words_in, three_longer, front_words}
use Rattle.carry_map.proofs.ReachedPlaces.{front_words_walk}
use Rattle.carry_map.proofs.PlacesFound.{given_walks, given_rays}
use Rattle.carry_map.proofs.places.front_rays.Goals as goal

pub rays-requires-clause-walks : goal.rays-requires-clause-walks
rays-requires-clause-walks c =
    let ts : List (List ℤ) = triangulation c.args.atlas.now c.args.track.now.tri in
    let out : List ℤ = c.args.track.now.left_out in
    let tri_is : c.tri-tri.result.now ≡ ts
    = c.tri-tri.ensures.value ∙ ap (triangulation c.args.atlas.now) c.tri.ensures in
    let words_is : words_in c.in_ok-words.words.items ≡ front_words ts out c.args.s
    = c.in_ok-words.ensures
    ∙ ap (λ (k : List (List ℤ)). three_longer k c.left_out.result.now c.args.s (c.args.s ∷ [])) tri_is
    ∙ ap (λ (k : List ℤ). three_longer ts k c.args.s (c.args.s ∷ [])) c.left_out.ensures in
    given_walks ts (triangulation c.args.atlas.now c.args.psi.now.source) c.place.result.0 (triangle_of ts c.args.s)
    (words_in c.in_ok-words.words.items) (front_words ts out c.args.s)
    (ap (triangulation c.args.atlas.now) c.requires.map.source)
    (c.place.ensures.triangle ∙ ap (λ (k : List (List ℤ)). triangle_of k c.args.s) tri_is) words_is
    (front_words_walk ts out c.label_laws.ensures
    (c.surface_laws.ensures.triangles ts (subst IsTriangulation tri_is c.tri-tri.ensures.sound)) c.args.s
    c.requires.label)

pub returns : goal.returns
returns c =
    let ts : List (List ℤ) = triangulation c.args.atlas.now c.args.track.now.tri in
    let out : List ℤ = c.args.track.now.left_out in
    let tri_is : c.tri-tri.result.now ≡ ts
    = c.tri-tri.ensures.value ∙ ap (triangulation c.args.atlas.now) c.tri.ensures in
    let words_is : words_in c.in_ok-words.words.items ≡ front_words ts out c.args.s
    = c.in_ok-words.ensures
    ∙ ap (λ (k : List (List ℤ)). three_longer k c.left_out.result.now c.args.s (c.args.s ∷ [])) tri_is
    ∙ ap (λ (k : List ℤ). three_longer ts k c.args.s (c.args.s ∷ [])) c.left_out.ensures in
    given_rays ts (triangulation c.args.atlas.now c.args.psi.now.target) (substitution c.args.psi.now.images)
    (vertex_image c.args.psi.now c.place.result.0) (vertex_image c.args.psi.now (triangle_of ts c.args.s))
    (words_in c.in_ok-words.words.items) (front_words ts out c.args.s) c.in_ok-rays.field-0.items
    (ap (triangulation c.args.atlas.now) c.requires.map.target)
    (ap (vertex_image c.args.psi.now)
    (c.place.ensures.triangle ∙ ap (λ (k : List (List ℤ)). triangle_of k c.args.s) tri_is))
    words_is c.in_ok-rays.ensures.value c.in_ok-rays.ensures.starts c.in_ok-rays.ensures.walks
