use Rattle.std.proofs.Common.{◌≡◌, ◌∙◌, ◌<◌, sym, ap, subst, arith, length, get_or, take}
use Rattle.ideal_tri.specs.Triangulations.{IsLabel, edge_count, triangle_of}
use Rattle.ideal_tri.specs.Relabellings.{image_of}
use Rattle.free_groupoid.proofs.FirstSides.{first_read}
use Rattle.free_groupoid.proofs.triangles.moved_triangle.Goals as goal
use Rattle.free_groupoid.proofs.triangles.moved_triangle.Goals.{After-relabelled}

-- the new label of the first side
moved : (c : After-relabelled)
    → c.relabelled.result ≡ image_of (take (edge_count c.args.before.now) c.in-Relabel.images) (get_or c.triple.result
    0 c.index-triple-0.result)
moved c = c.relabelled.ensures (edge_count c.args.before.now) (omega arith)

pub place-requires : goal.place-requires
place-requires c =
    let three : 0 < length c.triple.result = omega arith in
    subst (IsLabel c.args.after.now) (sym (moved (goal.at.place-requires c).After-relabelled))
    (c.relabelling_laws.ensures.label _ _ _ _ (rw c.in-Relabel.is at c.requires.moves) (c.triple.ensures.labels 0
    c.index-triple-0.result three))

pub returns-in-Relabel : goal.returns-in-Relabel
returns-in-Relabel c =
    let three : 0 < length c.triple.result = omega arith in
    rw c.in-Relabel.is
    (c.place.ensures.triangle
    ∙ ap (triangle_of c.args.after.now)
    (moved (goal.at.returns-in-Relabel c).After-relabelled
    ∙ ap (image_of (take (edge_count c.args.before.now) c.in-Relabel.images))
    (first_read c.args.before.now c.args.t c.triple.result c.index-triple-0.result c.triple.ensures.triple three)))
