use Rattle.edge_coords.proofs.Ends.{ends_within}
use Rattle.edge_coords.proofs.corners.ends_law.Goals as goal

pub returns-clause-most : goal.returns-clause-most
returns-clause-most c =
    ends_within c.args.tri.now c.args.w.now (c.surface_laws.ensures.triangles c.args.tri.now c.requires.sound)
    (c.drawing_laws.ensures c.args.tri.now c.requires.sound) (c.corner_laws.ensures c.args.tri.now c.requires.sound)
    c.args.x c.requires.multicurve c.requires.label
