use Rattle.std.proofs.Common.{arith}
use Rattle.ideal_tri.proofs.Components.{first_triangles_few}
use Rattle.ideal_tri.proofs.tri.Tri.components.Goals as goal

pub returns-clause-few : goal.returns-clause-few
returns-clause-few c = omega (arith, c.first_triangles.ensures, first_triangles_few c.args.self.now c.triangles.result)
