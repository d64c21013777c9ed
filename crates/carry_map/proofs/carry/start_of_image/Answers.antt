use Rattle.std.proofs.Common.{ℤ, List, pos, ◌<◌, length, sym, ◌∙◌, ap, subst, get_or}
use Rattle.std.proofs.lemmas.List.{get_or_default}
use Rattle.ideal_tri.specs.Triangulations.{IsLabel}
use Rattle.tri_atlas.specs.Arena.{triangulation}
use Rattle.train_track.specs.Tracks.{switches_of}
use Rattle.carry_map.proofs.SwitchPlaces.{switch_label}
use Rattle.carry_map.proofs.carry.start_of_image.Goals as goal

pub place-requires : goal.place-requires
place-requires c =
    let here : List (List ℤ) = triangulation c.args.atlas.now c.args.track.now.tri in
    let same = c.requires.map.here.on.switches in
    let within : c.args.i < length (switches_of here c.args.track.now.left_out) =
    subst (λ (xs : List ℤ). c.args.i < length xs) same c.requires.within in
    subst (λ (ts : List (List ℤ)). IsLabel ts c.index-switches-i.result)
    (sym (c.tri-2.ensures.value ∙ ap (triangulation c.args.atlas.now) c.tri.ensures))
    (subst (IsLabel here)
    (sym (c.index-switches-i.is
    ∙ ap (λ (xs : List ℤ). get_or xs c.args.i c.index-switches-i.result) (c.switches.ensures ∙ same)
    ∙ get_or_default (switches_of here c.args.track.now.left_out) c.args.i c.index-switches-i.result (pos 0) within))
    (switch_label here c.args.track.now.left_out c.args.i within))
