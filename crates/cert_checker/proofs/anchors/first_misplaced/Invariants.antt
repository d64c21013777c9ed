use Rattle.tri_atlas.specs.Arena.{triangulation}
use Rattle.free_groupoid.specs.GroupoidMaps.{vertex_image}
use Rattle.cert_text.specs.Certificates.{anchors_seen}
use Rattle.cert_checker.specs.FirstFailing.{AllPass}
use Rattle.cert_checker.specs.TrackRules.{IsAnchorAt}
use Rattle.cert_checker.proofs.anchors.first_misplaced.Given as goal

abbrev pub invariant-loop-i : goal.invariant-loop-i
invariant-loop-i l =
    AllPass l.i
    (IsAnchorAt (triangulation l.atlas l.site.track.tri) l.site.track.left_out (vertex_image l.site.map)
    (anchors_seen l.anchors))
