use Rattle.std.proofs.Common.{◌↔◌, IsTrue, rules}
use Rattle.std.specs.List.{Contains}
use Rattle.ideal_tri.specs.Vertices.{vertex_of}
use Rattle.light_curves.proofs.TouchedVertices.{touched_test}
use Rattle.light_curves.proofs.touched_vertices.is_touched.Goals as goal

pub returns : goal.returns
returns c w are =
    let found : IsTrue c.contains.result ↔ Contains c.args.touched.now (vertex_of c.args.tri.now c.args.x) = search rules in
    touched_test c.args.tri.now w c.args.touched.now (c.vertex_laws.ensures.vertices c.args.tri.now c.edges.ensures.sound)
    c.args.x c.requires are c.contains.result found
