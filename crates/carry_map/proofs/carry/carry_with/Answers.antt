use Rattle.std.proofs.Common.{sym, subst}
use Rattle.std.specs.List.{All}
use Rattle.tri_atlas.specs.Arena.{triangulation}
use Rattle.free_groupoid.specs.Walks.{IsWalkOn}
use Rattle.std.proofs.lemmas.Result.{err_from_is_err_and}
use Rattle.free_groupoid.specs.GroupoidMaps.{substitution, vertex_image}
use Rattle.train_track.specs.Branches.{words_of}
use Rattle.carry_map.proofs.CarriedBy.{carried_whole}
use Rattle.carry_map.proofs.MapsOnTracks.{map_here, walks_on}
use Rattle.carry_map.proofs.carry.carry_with.Goals as goal

pub returns-in_err-images-clause-refused : goal.returns-in_err-images-clause-refused
returns-in_err-images-clause-refused c =
    let p = err_from_is_err_and c.from_residual.result c.from_residual.ensures.1 in
    rw (p.1, p.2) (c.in_err-images.ensures.refused c.args.cap)

pub returns-clause-carried : goal.returns-clause-carried
returns-clause-carried c =
    carried_whole _ c.args.track.now.left_out (substitution c.args.psi.now.images) (vertex_image c.args.psi.now)
    c.args.anchors.now c.requires.connected (words_of c.args.track.now.branches) c.in_ok-images.ensures.fit
    c.anchor_laws.ensures (c.base.ensures.sound.sound c.args.track.now.tri c.requires.map.here.tri)
    c.requires.map.here.on.filling.single
    (map_here c.args.atlas.now c.args.track.now c.args.psi.now c.requires.map) c.requires.map.here.on.branches _
    c.in_ok-to.ensures c.in_ok-connect.ensures.letters c.in_ok-images.ensures.paths

pub returns-clause-walks : goal.returns-clause-walks
returns-clause-walks c =
    subst (All (IsWalkOn (triangulation c.args.atlas.now c.args.track.now.tri))) (sym c.in_ok-images.ensures.paths)
    (walks_on c.args.atlas.now c.args.track.now c.args.psi.now c.requires.map c.label_laws.ensures
    c.surface_laws.ensures c.map_laws.ensures c.base.ensures.sound c.args.anchors.now c.requires.connected)
