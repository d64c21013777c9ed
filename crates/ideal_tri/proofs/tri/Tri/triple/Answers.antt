use Rattle.std.proofs.Common.{◌<◌, ℤ, List, length, take}
use Rattle.ideal_tri.proofs.Sides.{row_labels}
use Rattle.ideal_tri.proofs.tri.Tri.triple.Goals as goal

pub returns-clause-labels : goal.returns-clause-labels
returns-clause-labels c =
    let ts : List (List ℤ) = take c.self.inside.count c.self.inside.sides in
    let within : c.args.t < length ts = rw c.self.view_is c.requires in
    rw (← c.self.view_is)
    (row_labels c.self.inside.count c.self.inside.sides c.self.inside.place c.args.t c.self.invariant within)
