use Rattle.std.proofs.Common.{subst}
use Rattle.tri_atlas.specs.Arena.{triangulation}
use Rattle.train_track.specs.Refusals.{IsRefusedFor}
use Rattle.train_track.specs.declared.track.TrackError.TheVariants.{VertexClosed}
use Rattle.cert_checker.proofs.FillingCorners.{none_closed}
use Rattle.cert_checker.proofs.corners.filling_track.Goals as goal

pub unreachable-requires-in-Err-VertexClosed : goal.unreachable-requires-in-Err-VertexClosed
unreachable-requires-in-Err-VertexClosed c =
    let refused : IsRefusedFor (triangulation c.args.atlas.now c.args.t) c.args.corners.now
    (VertexClosed c.in-Err-VertexClosed.field-0-0) =
    subst (IsRefusedFor (triangulation c.args.atlas.now c.args.t) c.args.corners.now) c.in-Err-VertexClosed.field-0-is
    c.in-Err-VertexClosed.ensures.refused in
    none_closed (triangulation c.args.atlas.now c.args.t) c.args.corners.now c.requires.filling c.label_laws.ensures
    (c.vertex_laws.ensures.vertices (triangulation c.args.atlas.now c.args.t)
    (c.base.ensures.sound.sound c.args.t c.requires.tri))
    c.in-Err-VertexClosed.field-0-0 refused.1.1
