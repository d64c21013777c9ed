use Rattle.std.proofs.Common.{ℕ, ℤ, List, ◌≡◌, sym, ◌∙◌, ap, subst}
use Rattle.ideal_tri.specs.Triangulations.{IsLabel, triangle_of}
use Rattle.tri_atlas.specs.Arena.{triangulation}
use Rattle.free_groupoid.specs.Walks.{DualWalk, IsWalkOn}
use Rattle.train_track.specs.Branches.{letter_at}
use Rattle.train_track.specs.Tracks.{switches_of}
use Rattle.carry_map.specs.AnchorAnswers.{carrying_by}
use Rattle.carry_map.specs.CarriedMaps.{goes_to}
use Rattle.carry_map.proofs.MapsOnTracks.{first_label, path_on}
use Rattle.carry_map.proofs.paths.train_path.Goals as goal

abbrev walk_of : ℕ → List ℤ → DualWalk
walk_of s w = record { start = s; letters = w }

pub goes_to-begins-requires-clause-listed : goal.goes_to-begins-requires-clause-listed
goes_to-begins-requires-clause-listed c =
    c.first_letter.ensures.switch.listed _ c.args.track.now c.requires.map.here.on c.requires.branch

pub place-start-requires : goal.place-start-requires
place-start-requires c =
    subst (λ (ts : List (List ℤ)). IsLabel ts c.goes_to-begins.result)
    (sym (c.tri-2.ensures.value ∙ ap (triangulation c.args.atlas.now) c.tri.ensures))
    (first_label c.args.atlas.now c.args.track.now c.args.psi.now c.requires.map c.label_laws.ensures
    c.surface_laws.ensures c.map_laws.ensures c.base.ensures.sound c.args.anchors.now c.requires.connected
    c.args.branch.now.letters c.requires.branch c.goes_to-begins.result
    (c.goes_to-begins.ensures
    ∙ ap (goes_to c.args.track.now.switches (carrying_by c.args.anchors.now)) c.first_letter.ensures.letter))

pub returns-clause-walk : goal.returns-clause-walk
returns-clause-walk c =
    let here : List (List ℤ) = triangulation c.args.atlas.now c.args.track.now.tri in
    let goes : List ℤ → ℤ → ℤ = λ xs x. goes_to xs (carrying_by c.args.anchors.now) x in
    let begins : c.goes_to-begins.result
    ≡ goes (switches_of here c.args.track.now.left_out) (letter_at c.args.branch.now.letters 0) =
    c.goes_to-begins.ensures ∙ ap (goes c.args.track.now.switches) c.first_letter.ensures.letter
    ∙ ap (λ (xs : List ℤ). goes xs (letter_at c.args.branch.now.letters 0)) c.requires.map.here.on.switches in
    let start : c.place-start.result.0
    ≡ triangle_of here (goes (switches_of here c.args.track.now.left_out) (letter_at c.args.branch.now.letters 0)) =
    c.place-start.ensures.triangle
    ∙ ap (λ (ts : List (List ℤ)). triangle_of ts c.goes_to-begins.result)
    (c.tri-2.ensures.value ∙ ap (triangulation c.args.atlas.now) c.tri.ensures)
    ∙ ap (triangle_of here) begins in
    subst (IsWalkOn here)
    (sym (ap (λ (s : ℕ). walk_of s c.in_ok-letters.letters.items) start
    ∙ ap (walk_of (triangle_of here (goes (switches_of here c.args.track.now.left_out) (letter_at
    c.args.branch.now.letters 0)))) c.in_ok-letters.ensures))
    (path_on c.args.atlas.now c.args.track.now c.args.psi.now c.requires.map c.label_laws.ensures
    c.surface_laws.ensures c.map_laws.ensures c.base.ensures.sound c.args.anchors.now c.requires.connected
    c.args.branch.now.letters c.requires.branch)
