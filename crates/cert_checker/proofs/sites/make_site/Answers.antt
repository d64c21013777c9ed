use Rattle.std.proofs.lemmas.Result.{err_from_is_err_and}
use Rattle.tri_atlas.specs.Arena.{triangulation}
use Rattle.tri_atlas.specs.Paths.{moves_of}
use Rattle.cert_text.specs.Certificates.{track_seen}
use Rattle.cert_checker.specs.TrackRefusals.{IsFlipRefusal, IsTrackRefusal, by_flips}
use Rattle.cert_checker.specs.inside.Stops.{IsRule}
use Rattle.cert_checker.proofs.Stopped.{stopped}
use Rattle.cert_checker.proofs.sites.make_site.Goals as goal

pub returns-in_err-flips-clause-refused : goal.returns-in_err-flips-clause-refused
returns-in_err-flips-clause-refused c =
    let p = err_from_is_err_and c.from_residual.result c.from_residual.ensures.1 in
    rw (p.1, p.2)
    (stopped (IsRule 12 (IsFlipRefusal (triangulation c.args.atlas.now 0) (track_seen c.args.c.now)))
    (IsTrackRefusal (triangulation c.args.atlas.now 0) (moves_of c.args.atlas.now c.args.word.now)
    (track_seen c.args.c.now))
    (λ rule place h. by_flips h.0 h.1) c.in_err-flips.field-0.0 c.in_err-flips.ensures.refused)
