use Rattle.std.proofs.Common.{◌<◌, ℕ, sym, subst, arith}
use Rattle.edge_coords.specs.declared.coords.TheConstants.{COORDINATE_LIMIT}
use Rattle.verdict_plan.proofs.LightCorners.{greatest_below}
use Rattle.verdict_plan.proofs.light_corners.has_light_count.Goals as goal

pub is_light-requires : goal.is_light-requires
is_light-requires c =
    subst (λ (n : ℕ). n < COORDINATE_LIMIT) (sym c.requires.most)
    (greatest_below COORDINATE_LIMIT 0 c.args.w.now.numbers (omega arith) c.requires.coordinates.small)
