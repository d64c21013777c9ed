use Rattle.std.proofs.Common.{◌≡◌, ◌<◌, ◌+◌, ◌%◌, [], ℤ, List, length, get_or, take, arith}
use Rattle.ideal_tri.specs.Triangulations.{triangle_of, side_of, IsLabel}
use Rattle.ideal_tri.proofs.Sides.{next_side, row_labels}
use Rattle.ideal_tri.proofs.tri.Tri.next.Goals as goal

pub bounds-self-inside-triangle : goal.bounds-self-inside-triangle
bounds-self-inside-triangle c =
    let ts : List (List ℤ) = take c.self.inside.count c.self.inside.sides in
    let label : IsLabel ts c.args.x = rw c.self.view_is c.requires in
    let i : c.place-triangle.result.0 ≡ triangle_of ts c.args.x = rw c.self.view_is c.place-triangle.ensures.triangle in
    let s : c.place-triangle.result.1 ≡ side_of ts c.args.x = rw c.self.view_is c.place-triangle.ensures.side in
    (next_side c.self.inside.count c.self.inside.sides c.self.inside.place c.args.x c.place-triangle.result.0
    c.place-triangle.result.1 c.args.x
    c.self.invariant label i s).0

pub returns-clause-next : goal.returns-clause-next
returns-clause-next c =
    let ts : List (List ℤ) = take c.self.inside.count c.self.inside.sides in
    let label : IsLabel ts c.args.x = rw c.self.view_is c.requires in
    let i : c.place-triangle.result.0 ≡ triangle_of ts c.args.x = rw c.self.view_is c.place-triangle.ensures.triangle in
    let s : c.place-triangle.result.1 ≡ side_of ts c.args.x = rw c.self.view_is c.place-triangle.ensures.side in
    rw (← c.self.view_is)
    (next_side c.self.inside.count c.self.inside.sides c.self.inside.place c.args.x c.place-triangle.result.0
    c.place-triangle.result.1
    c.index-self-triangle.result c.self.invariant label i s).1

pub returns-clause-label : goal.returns-clause-label
returns-clause-label c =
    let ts : List (List ℤ) = take c.self.inside.count c.self.inside.sides in
    let within : c.place-triangle.result.0 < length ts = rw c.self.view_is c.place-triangle.ensures.within.0 in
    let three : length (get_or c.self.inside.sides c.place-triangle.result.0 []) ≡ 3 = c.self.told in
    rw (← c.self.view_is)
    (row_labels c.self.inside.count c.self.inside.sides c.self.inside.place c.place-triangle.result.0 c.self.invariant
    within
    ((c.place-triangle.result.1 + 1) % 3) c.index-self-triangle.result (omega arith))
