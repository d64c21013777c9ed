use Rattle.std.proofs.Common.{ℕ, sym, subst}
use Rattle.edge_coords.specs.PeripheralVertices.{IsLeastPeripheral}
use Rattle.edge_coords.proofs.FirstPeripheral.{free_corners, least_peripheral}
use Rattle.edge_coords.proofs.corners.peripheral_at.Goals as goal

pub returns-in-Some-clause-some : goal.returns-in-Some-clause-some
returns-in-Some-clause-some c =
    subst (IsLeastPeripheral c.args.tri.now c.args.w.now) (sym c.vertex.ensures)
    (least_peripheral c.args.tri.now c.args.w.now (c.corner_laws.ensures c.args.tri.now c.requires.sound)
    (c.vertex_laws.ensures.vertices c.args.tri.now c.requires.sound)
    c.in-Some.x c.in-Some.ensures.label c.in-Some.ensures.positive c.in-Some.ensures.first)

pub returns-in-None-clause-none : goal.returns-in-None-clause-none
returns-in-None-clause-none c =
    free_corners c.args.tri.now c.args.w.now (c.corner_laws.ensures c.args.tri.now c.requires.sound)
    c.in-None.ensures.none
