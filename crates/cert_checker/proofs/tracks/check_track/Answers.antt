use Rattle.std.proofs.Common.{List, ℤ, IfErr, subst}
use Rattle.tri_atlas.specs.Paths.{moves_of}
use Rattle.cert_text.specs.Certificates.{track_seen}
use Rattle.cert_checker.specs.TrackRefusals.{IsTrackRefusal}
use Rattle.cert_checker.specs.inside.Stops.{IsStop}
use Rattle.cert_checker.proofs.tracks.check_track.Goals as goal

pub returns-clause-refused : goal.returns-clause-refused
returns-clause-refused c =
    subst
    (λ (ts : List (List ℤ)). IfErr c.check_carrying.result (IsStop (IsTrackRefusal ts
    (moves_of c.args.atlas.now c.args.word.now) (track_seen c.args.track.now))))
    (c.atlas_laws.ensures.growth.triangulation c.args.atlas.now c.make_site.new.atlas 0 c.make_site.ensures.grows
    c.base.ensures.sound.base)
    (c.check_carrying.ensures.refused (moves_of c.args.atlas.now c.args.word.now) c.in_ok-site.ensures.held)
