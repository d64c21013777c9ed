use Rattle.std.proofs.Common.{◌≤◌, length, arith}
use Rattle.ideal_tri.specs.declared.tri.TheConstants.{TRIANGLES}
use Rattle.ideal_tri.proofs.Places.{small_size}
use Rattle.ideal_tri.proofs.tri.Tri.genus.Goals as goal

pub overflow_mul-result : goal.overflow_mul-result
overflow_mul-result c =
    let few : length c.args.self.now ≤ TRIANGLES = small_size c.args.self.now c.edges-edges.ensures.size in
    omega (arith, c.components.ensures.few)

pub overflow_add-result : goal.overflow_add-result
overflow_add-result c =
    let few : length c.args.self.now ≤ TRIANGLES = small_size c.args.self.now c.edges-edges.ensures.size in
    omega (arith, c.components.ensures.few, c.edges-edges.ensures.size.few)
