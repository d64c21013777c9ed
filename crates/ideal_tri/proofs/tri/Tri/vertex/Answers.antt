use Rattle.std.proofs.Common.{sym, ◌∙◌, ap, arith}
use Rattle.ideal_tri.specs.Triangulations.{edge_count}
use Rattle.ideal_tri.specs.Vertices.{rank}
use Rattle.ideal_tri.proofs.Triangles.{triangle_laws}
use Rattle.ideal_tri.proofs.Order.{rank_below}
use Rattle.ideal_tri.proofs.Vertices.{firsts, vertex_of-is}
use Rattle.ideal_tri.proofs.tri.Tri.vertex.Goals as goal

pub rank-requires : goal.rank-requires
rank-requires c = omega (arith, c.least_corner-first.ensures.label, c.least_corner-first.ensures.size.few)

pub first_corners-requires-clause-count : goal.first_corners-requires-clause-count
first_corners-requires-clause-count c =
    omega (
      arith,
      c.rank.ensures,
      rank_below c.least_corner-first.result (edge_count c.args.self.now)
          c.least_corner-first.ensures.label,
    )

pub returns : goal.returns
returns c =
    c.first_corners.ensures
    ∙ ap (firsts c.args.self.now) (c.rank.ensures ∙ ap rank c.least_corner-first.ensures.least)
    ∙ sym (vertex_of-is c.args.self.now (triangle_laws c.args.self.now c.least_corner-first.ensures.sound) c.args.x
    c.requires)
