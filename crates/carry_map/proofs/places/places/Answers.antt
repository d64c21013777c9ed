use Rattle.std.proofs.Common.{List, ℤ, ◌≡◌, refl, sym, ◌∙◌, ap, subst, take}
use Rattle.ideal_tri.specs.Triangulations.{IsTriangulation, triangle_of}
use Rattle.tri_atlas.specs.Arena.{triangulation}
use Rattle.free_groupoid.specs.Walks.{DualWalk}
use Rattle.free_groupoid.specs.GroupoidMaps.{substitution, vertex_image}
use Rattle.train_track.specs.Branches.{words_of}
use Rattle.carry_map.specs.Anchors.{Place, ArePlaces}
use Rattle.carry_map.specs.AnchorAnswers.{IsReachedFrom}
use Rattle.carry_map.proofs.FirstOfLists.{All-take}
use Rattle.std.specs.List.{All}
use Rattle.carry_map.specs.inside.Rays.{at_listed, places_past, most_shared, common_of}
use Rattle.carry_map.proofs.PlacesFound.{places_found, places_reached}
use Rattle.carry_map.proofs.places.places.Goals as goal

sound : (c : goal.After-drop-backs-2) → IsTriangulation (triangulation c.args.atlas.now c.args.track.now.tri)
sound c =
    subst IsTriangulation (c.tri-2.ensures.value ∙ ap (triangulation c.args.atlas.now) c.tri.ensures)
    c.tri-2.ensures.sound

abbrev past : List DualWalk → List DualWalk → List ℤ → List Place
past backs fronts switches =
    at_listed switches (places_past (most_shared (words_of backs) (words_of fronts))
    (common_of (words_of backs)) (common_of (words_of fronts)))

abbrev all_of : goal.After-drop-backs-2 → List Place
all_of c = past c.in_ok-backs.backs.items c.in_ok-fronts.fronts.items c.args.track.now.switches

read : (c : goal.After-drop-backs-2) → c.in_ok-places_of_rays.field-0 ≡ take c.args.most (all_of c)
read c =
    c.in_ok-places_of_rays.ensures
    ∙ ap (take c.args.most)
    (ap (λ (k : List DualWalk). past k c.deref-2.result.now c.args.track.now.switches) c.deref.ensures.value
    ∙ ap (λ (k : List DualWalk). past c.in_ok-backs.backs.items k c.args.track.now.switches) c.deref-2.ensures.value)

found : (c : goal.After-drop-backs-2) → ArePlaces (triangulation c.args.atlas.now c.args.track.now.tri)
    c.args.track.now.left_out (substitution c.args.psi.now.images) c.args.s (all_of c)
found c =
    places_found
    (triangulation c.args.atlas.now c.args.track.now.tri) c.args.track.now.left_out c.label_laws.ensures
    c.word_laws.ensures
    (c.surface_laws.ensures.triangles (triangulation c.args.atlas.now c.args.track.now.tri) (sound c))
    (c.track_laws.ensures.turns (triangulation c.args.atlas.now c.args.track.now.tri) c.args.track.now.left_out
    (sound c) c.requires.map.here.on.filling.single)
    (substitution c.args.psi.now.images) c.args.s c.requires.label
    (vertex_image c.args.psi.now (triangle_of (triangulation c.args.atlas.now c.args.track.now.tri) c.args.s))
    c.in_ok-backs.backs.items c.in_ok-fronts.fronts.items c.in_ok-backs.ensures c.in_ok-fronts.ensures
    c.args.track.now.switches (all_of c) c.requires.map.here.on.switches refl

pub returns-clause-places : goal.returns-clause-places
returns-clause-places c = (all_of c, found c, read c)

pub returns-clause-reached : goal.returns-clause-reached
returns-clause-reached c =
    subst (All (IsReachedFrom (triangulation c.args.atlas.now c.args.track.now.tri) c.args.track.now.left_out
    (vertex_image c.args.psi.now (triangle_of (triangulation c.args.atlas.now c.args.track.now.tri) c.args.s))))
    (sym (read c))
    (All-take (IsReachedFrom (triangulation c.args.atlas.now c.args.track.now.tri) c.args.track.now.left_out
    (vertex_image c.args.psi.now (triangle_of (triangulation c.args.atlas.now c.args.track.now.tri) c.args.s)))
    c.args.most (all_of c)
    (places_reached
    (triangulation c.args.atlas.now c.args.track.now.tri) c.args.track.now.left_out c.label_laws.ensures
    c.word_laws.ensures
    (c.surface_laws.ensures.triangles (triangulation c.args.atlas.now c.args.track.now.tri) (sound c))
    (c.track_laws.ensures.turns (triangulation c.args.atlas.now c.args.track.now.tri) c.args.track.now.left_out
    (sound c) c.requires.map.here.on.filling.single)
    (substitution c.args.psi.now.images) c.args.s c.requires.label
    (vertex_image c.args.psi.now (triangle_of (triangulation c.args.atlas.now c.args.track.now.tri) c.args.s))
    c.in_ok-backs.backs.items c.in_ok-fronts.fronts.items c.in_ok-backs.ensures c.in_ok-fronts.ensures
    c.args.track.now.switches (all_of c) c.requires.map.here.on.switches refl))
