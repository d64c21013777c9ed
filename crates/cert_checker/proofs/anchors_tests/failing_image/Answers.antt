use Rattle.std.proofs.Common.{ℕ, ℤ, List, subst}
use Rattle.tri_atlas.specs.Arena.{triangulation}
use Rattle.free_groupoid.specs.GroupoidMaps.{vertex_image}
use Rattle.cert_text.specs.Certificates.{anchors_seen, track_seen}
use Rattle.cert_text.specs.declared.carried_track.Anchor.{Anchor}
use Rattle.cert_checker.specs.inside.TrackParts.{AreAnchors}
use Rattle.cert_checker.proofs.ConnectedAnchors.{anchors_connected}
use Rattle.cert_checker.proofs.anchors_tests.failing_image.Goals as goal

pub check_images-requires-clause-connected : goal.check_images-requires-clause-connected
check_images-requires-clause-connected c =
    let here : List (List ℤ) = triangulation c.args.s.now.atlas c.args.site.now.track.tri in
    let out : List ℤ = c.args.site.now.track.left_out in
    let triangles : ℕ → ℕ = vertex_image c.args.site.now.map in
    anchors_connected here out triangles (track_seen c.in_ok-certificate.certificate)
    (subst (λ (anchors : List Anchor). AreAnchors here out triangles (anchors_seen anchors)) c.deref.ensures.value
    c.in-Ok.ensures.held)
