use Rattle.tri_atlas.specs.Arena.{triangulation}
use Rattle.free_groupoid.specs.GroupoidMaps.{substitution}
use Rattle.train_track.specs.Branches.{words_of}
use Rattle.cert_text.specs.Certificates.{track_seen}
use Rattle.cert_checker.specs.FirstFailing.{AllPass}
use Rattle.cert_checker.specs.inside.TrackParts.{IsImageOf}
use Rattle.cert_checker.proofs.images.first_other.Given as goal

abbrev pub invariant-loop-j : goal.invariant-loop-j
invariant-loop-j l =
    AllPass l.j
    (IsImageOf (triangulation l.atlas l.site.track.tri) l.site.track.left_out (substitution l.site.map.images)
    (track_seen l.c) (words_of l.site.track.branches))
