use Rattle.std.proofs.Common.{ℤ, List, take, arith}
use Rattle.ideal_tri.specs.Triangulations.{IsLabel}
use Rattle.ideal_tri.proofs.Places.{small_label}
use Rattle.ideal_tri.proofs.Sides.{read, IsRead}
use Rattle.ideal_tri.proofs.tri.Tri.place.Goals as goal

pub key-requires : goal.key-requires
key-requires c =
    let ts : List (List ℤ) = take c.self.inside.count c.self.inside.sides in
    let label : IsLabel ts c.args.x = rw c.self.view_is c.requires in
    small_label ts c.args.x c.self.invariant.glued.size label

here : (c : goal.After-from-k) → IsRead c.args.self.now c.args.x c.from-k.result
here c =
    let ts : List (List ℤ) = take c.self.inside.count c.self.inside.sides in
    let label : IsLabel ts c.args.x = rw c.self.view_is c.requires in
    rw (← c.self.view_is)
    (read ts c.self.inside.place c.args.x c.key.result c.from-k.result c.self.invariant.glued label c.key.ensures.key
    c.from-k.ensures)

pub returns-clause-triangle : goal.returns-clause-triangle
returns-clause-triangle c = (here c).triangle

pub returns-clause-side : goal.returns-clause-side
returns-clause-side c = (here c).side

pub returns-clause-within : goal.returns-clause-within
returns-clause-within c = ((here c).within, omega arith)
