use Rattle.std.proofs.Common.{ap, subst}
use Rattle.edge_coords.specs.Coordinates.{Coordinates}
use Rattle.tri_atlas.specs.Arena.{IsTriIn}
use Rattle.surface_lib.proofs.twist_form.path_along.Goals as goal

pub returns-clause-base : goal.returns-clause-base
returns-clause-base g c =
    c.atlas_laws.ensures.growth.triangulation _ _ 0 c.compile.ensures.grows
    (subst (IsTriIn c.args.atlas.now) (ap (λ (z : Coordinates). z.tri) c.in_ok-curve.ensures.value)
    c.in_ok-curve.ensures.here.tri_in)
