use Rattle.std.proofs.Common.{ℤ, List, ◌≡◌, length, sym, ◌∙◌, ap}
use Rattle.tri_atlas.specs.Arena.{triangulation}
use Rattle.free_groupoid.specs.GroupoidMaps.{substitution, vertex_image}
use Rattle.carry_map.specs.Anchors.{Place}
use Rattle.carry_map.proofs.MapsOnTracks.{map_here}
use Rattle.carry_map.proofs.MiddleGaps.{as_many_connected, of_sign, gap_is}
use Rattle.carry_map.proofs.steps.gap.Goals as goal

pub path_letters-requires-clause-from_each : goal.path_letters-requires-clause-from_each
path_letters-requires-clause-from_each c =
    let here : List (List ℤ) = triangulation c.args.atlas.now c.args.track.now.tri in
    let many : length c.for_sign-from.result.now ≡ length c.args.track.now.switches =
    ap (λ (ps : List Place). length ps) c.for_sign-from.ensures
    ∙ of_sign (λ ps. length ps ≡ length c.args.track.now.switches) c.first_letter.result c.args.firsts.now
    c.args.lasts.now
    (as_many_connected here c.args.track.now.left_out (vertex_image c.args.psi.now) c.args.firsts.now c.requires.firsts
    ∙ ap (λ (xs : List ℤ). length xs) (sym c.requires.map.here.on.switches))
    (as_many_connected here c.args.track.now.left_out (vertex_image c.args.psi.now) c.args.lasts.now c.requires.lasts
    ∙ ap (λ (xs : List ℤ). length xs) (sym c.requires.map.here.on.switches)) in
    many

pub path_letters-requires-clause-to_each : goal.path_letters-requires-clause-to_each
path_letters-requires-clause-to_each c =
    let here : List (List ℤ) = triangulation c.args.atlas.now c.args.track.now.tri in
    let many : length c.for_sign-to.result.now ≡ length c.args.track.now.switches =
    ap (λ (ps : List Place). length ps) c.for_sign-to.ensures
    ∙ of_sign (λ ps. length ps ≡ length c.args.track.now.switches) c.last_letter.result c.args.lasts.now
    c.args.firsts.now
    (as_many_connected here c.args.track.now.left_out (vertex_image c.args.psi.now) c.args.lasts.now c.requires.lasts
    ∙ ap (λ (xs : List ℤ). length xs) (sym c.requires.map.here.on.switches))
    (as_many_connected here c.args.track.now.left_out (vertex_image c.args.psi.now) c.args.firsts.now c.requires.firsts
    ∙ ap (λ (xs : List ℤ). length xs) (sym c.requires.map.here.on.switches)) in
    many

pub returns : goal.returns
returns c all first last =
    let here : List (List ℤ) = triangulation c.args.atlas.now c.args.track.now.tri in
    gap_is c.label_laws.ensures c.surface_laws.ensures c.map_laws.ensures here
    (c.base.ensures.sound.sound c.args.track.now.tri c.requires.map.here.tri) c.args.track.now.left_out
    (substitution c.args.psi.now.images) (vertex_image c.args.psi.now)
    (map_here c.args.atlas.now c.args.track.now c.args.psi.now c.requires.map) c.args.firsts.now c.args.lasts.now
    c.requires.firsts c.requires.lasts c.args.branch.now.letters c.requires.branch all first last
    c.args.track.now.switches c.requires.map.here.on.switches c.first_letter.result c.last_letter.result
    c.first_letter.ensures.letter c.last_letter.ensures.letter c.for_sign-from.result.now c.for_sign-to.result.now
    c.for_sign-from.ensures c.for_sign-to.ensures _ c.deref.result.now c.in_ok-letters.ensures c.deref.ensures.value _
    c.count_switches.ensures
