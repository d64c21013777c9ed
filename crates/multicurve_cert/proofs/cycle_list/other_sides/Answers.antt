use Rattle.std.proofs.Common.{arith, ◌<◌, ◌≤◌}
use Rattle.ideal_tri.specs.Vertices.{rank}
use Rattle.multicurve_cert.proofs.CyclePrefixes.{other_sides, turned_sides}
use Rattle.multicurve_cert.proofs.cycle_list.other_sides.Goals as goal

pub returns-then-rank : goal.returns-then-rank
returns-then-rank c =
    let less : rank c.next-next.result < rank c.next-previous.result =
    omega (arith, c.rank.ensures, c.rank-2.ensures, c.if-rank.true) in
    other_sides _ _ _ _ (c.surface_laws.ensures.triangles c.args.tri.now c.triangles.ensures.sound) c.requires
    c.next-next.ensures.next c.next-previous.ensures.next less

pub returns-else-rank : goal.returns-else-rank
returns-else-rank c =
    let less : rank c.next-previous.result ≤ rank c.next-next.result =
    omega (arith, c.rank.ensures, c.rank-2.ensures, c.if-rank.false) in
    turned_sides _ _ _ _ (c.surface_laws.ensures.triangles c.args.tri.now c.triangles.ensures.sound)
    c.label_laws.ensures.order c.requires c.next-next.ensures.next c.next-previous.ensures.next less
