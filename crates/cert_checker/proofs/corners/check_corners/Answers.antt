use Rattle.std.proofs.Common.{ℕ, ◌+◌, refl, ap}
use Rattle.cert_checker.specs.TrackRefusals.{by_vertex}
use Rattle.cert_checker.proofs.FillingCorners.{filling_from}
use Rattle.cert_checker.proofs.corners.check_corners.Goals as goal

pub returns-in-Some-first_closed-clause-refused : goal.returns-in-Some-first_closed-clause-refused
returns-in-Some-first_closed-clause-refused c = (
  refl,
  by_vertex c.in-Some-first_closed.v (ap (λ (v : ℕ). 1000 + v) c.from.ensures) c.in_default.ensures.none
      c.in-Some-first_closed.ensures.some,
)

pub returns-in-None-clause-filling : goal.returns-in-None-clause-filling
returns-in-None-clause-filling c =
    filling_from c.args.tri.now c.args.corners.now c.label_laws.ensures
    (c.vertex_laws.ensures.vertices c.args.tri.now c.requires) c.in_default.ensures.none c.in-None.ensures.none
