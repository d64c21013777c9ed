use Rattle.std.proofs.Common.{arith}
use Rattle.ideal_tri.specs.Triangulations.{IsLabel, IsWalk, triangle_of}
use Rattle.free_groupoid.proofs.Walks.{first_of_core}
use Rattle.free_groupoid.proofs.walk.Walk.cyclic_reduce.Goals as goal
use Rattle.free_groupoid.proofs.walk.Walk.cyclic_reduce.Goals.{In-Some}

core : (c : In-Some) → IsLabel c.args.tri.now c.in-Some.x.now
    × IsWalk c.args.tri.now (triangle_of c.args.tri.now c.in-Some.x.now) c.cyclic_reduce.new.letters.items (triangle_of
    c.args.tri.now c.in-Some.x.now)
core c =
    let closed = rw (← c.self.view_is) at c.requires in
    first_of_core c.args.tri.now (c.surface_laws.ensures.walks _ c.triangles.ensures.sound)
    _ _ _ _ _
    closed.closed c.cyclic_reduce.ensures c.deref.ensures.value (omega (arith, c.in-Some.ensures.item.3.0))
    c.in-Some.ensures.item.1

pub place-requires : goal.place-requires
place-requires c = (core (goal.at.place-requires c).In-Some).0

pub returns-in-Some-clause-closed : goal.returns-in-Some-clause-closed
returns-in-Some-clause-closed c = record {
  start_in = c.place.ensures.within.0;
  closed = rw c.place.ensures.triangle (core (goal.at.returns-in-Some-clause-closed c).In-Some).1;
}
