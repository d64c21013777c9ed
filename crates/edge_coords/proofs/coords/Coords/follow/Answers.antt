use Rattle.std.proofs.lemmas.Result.{err_from_is_err_and}
use Rattle.tri_atlas.specs.Arena.{triangulation}
use Rattle.tri_atlas.specs.Paths.{moves_of}
use Rattle.edge_coords.proofs.Along.{overflow_along}
use Rattle.edge_coords.proofs.coords.Coords.follow.Goals as goal

pub returns-in_err-self-clause-refused : goal.returns-in_err-self-clause-refused
returns-in_err-self-clause-refused c =
    let p = err_from_is_err_and c.from_residual.result c.from_residual.ensures.1 in
    rw (p.1, p.2)
    (overflow_along (triangulation c.args.atlas.now c.args.self.now.tri) c.args.self.now.numbers
    (moves_of c.args.atlas.now c.args.p.now) c.in_err-self.field-0.0 c.path_law.ensures.overflow
    c.in_err-self.ensures.refused)
