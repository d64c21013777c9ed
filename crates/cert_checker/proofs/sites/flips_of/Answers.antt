use Rattle.std.proofs.Common.{◌≡◌, ap, arith, length}
use Rattle.tri_atlas.specs.Arena.{triangulation}
use Rattle.cert_text.specs.Certificates.{track_seen}
use Rattle.cert_checker.specs.TrackRefusals.{IsFlipRefusal}
use Rattle.cert_checker.specs.inside.SiteSteps.{IsNoFlip}
use Rattle.cert_checker.specs.inside.Stops.{IsRule}
use Rattle.cert_checker.proofs.FlipSteps.{flip_refused}
use Rattle.cert_checker.proofs.Stopped.{refused_so}
use Rattle.cert_checker.proofs.sites.flips_of.Goals as goal

pub returns-clause-refused : goal.returns-clause-refused
returns-clause-refused c =
    let same : length c.deref.result.now ≡ length c.args.c.now.flips.items = ap length c.deref.ensures.value in
    refused_so (IsRule 12 (IsNoFlip (triangulation c.args.atlas.now 0) c.deref.result.now))
    (IsRule 12 (IsFlipRefusal (triangulation c.args.atlas.now 0) (track_seen c.args.c.now)))
    (λ rule place h. (
      h.0,
      flip_refused (triangulation c.args.atlas.now 0) (track_seen c.args.c.now) c.deref.result.now c.deref.ensures.value
          (omega (arith, c.if-c-eq0.false), c.if-c-gt-POWER_LIMIT.false)
          (omega (arith, same, c.deref.ensures.len, c.len.ensures, c.if-len-gt-FLIP_LIMIT.false)) place h.1,
    ))
    c.flip_path.result c.flip_path.ensures.refused
