use Rattle.std.proofs.Common.{ℤ, ◌<◌, ◌^◌, w32, ap, sym, ◌∙◌, subst, arith}
use Rattle.std.proofs.lemmas.Int.{to_z_pos}
use Rattle.std.specs.Prelude.{slice_index}
use Rattle.curve_shorten.specs.Twists.{IsAnnulus}
use Rattle.ideal_tri.specs.DrawingLaws.{DrawingLaws}
use Rattle.ideal_tri.specs.Labels.{edge_of}
use Rattle.ideal_tri.specs.SurfaceLaws.{TriangleLaws}
use Rattle.ideal_tri.specs.Triangulations.{IsLabel, next}
use Rattle.ideal_tri.specs.Vectors.{weight}
use Rattle.twist_compile.proofs.AnnulusSides.{annulus_next, annulus_previous, of_crossed}
use Rattle.twist_compile.proofs.end_steps.annulus.Goals as goal

pub returns-then-w-edge-gt0 : goal.returns-then-w-edge-gt0
returns-then-w-edge-gt0 c =
    let x : ℤ = c.in_first_triangle-x.result in
    let t : TriangleLaws c.args.tri.now = c.surface_laws.ensures.triangles c.args.tri.now c.requires.sound in
    let d : DrawingLaws c.args.tri.now = c.drawing_laws.ensures c.args.tri.now c.requires.sound in
    let small : c.crossed_edge.result < 2 ^ 31 =
    omega (arith, c.crossed_edge.ensures.within, c.requires.two.multicurve.one_per_edge, c.requires.few) in
    let chosen : IsLabel c.args.tri.now x × (0 < weight c.args.w.now x) =
    of_crossed c.label_laws.ensures c.args.tri.now t d c.args.w.now c.requires.two x c.new-crossed.result
    c.crossed_edge.result c.crossed_edge.ensures.within c.crossed_edge.ensures.crossed (ap edge_of (c.new-crossed.ensures ∙ to_z_pos w32 c.crossed_edge.result small))
    c.in_first_triangle-x.ensures.side in
    subst (λ (y : ℤ). IsAnnulus c.args.tri.now c.args.w.now x y) (sym c.next-y.ensures.next)
    (annulus_next c.label_laws.ensures c.args.tri.now t d c.args.w.now c.requires.two x chosen.0 chosen.1
    c.in_first_triangle-x.ensures.first
    (omega (
      arith,
      c.if-w-edge-gt0.true,
      ap (slice_index c.args.w.now) (c.edge.ensures ∙ ap edge_of c.next-y.ensures.next),
    )))

pub returns-else-w-edge-gt0 : goal.returns-else-w-edge-gt0
returns-else-w-edge-gt0 c =
    let x : ℤ = c.in_first_triangle-x.result in
    let t : TriangleLaws c.args.tri.now = c.surface_laws.ensures.triangles c.args.tri.now c.requires.sound in
    let d : DrawingLaws c.args.tri.now = c.drawing_laws.ensures c.args.tri.now c.requires.sound in
    let small : c.crossed_edge.result < 2 ^ 31 =
    omega (arith, c.crossed_edge.ensures.within, c.requires.two.multicurve.one_per_edge, c.requires.few) in
    let chosen : IsLabel c.args.tri.now x × (0 < weight c.args.w.now x) =
    of_crossed c.label_laws.ensures c.args.tri.now t d c.args.w.now c.requires.two x c.new-crossed.result
    c.crossed_edge.result c.crossed_edge.ensures.within c.crossed_edge.ensures.crossed (ap edge_of (c.new-crossed.ensures ∙ to_z_pos w32 c.crossed_edge.result small))
    c.in_first_triangle-x.ensures.side in
    subst (λ (y : ℤ). IsAnnulus c.args.tri.now c.args.w.now y x) (sym (c.next.ensures.next ∙ ap (next c.args.tri.now) c.next-y.ensures.next))
    (annulus_previous c.label_laws.ensures c.args.tri.now t d c.args.w.now c.requires.two x chosen.0 chosen.1
    c.in_first_triangle-x.ensures.first
    (omega (
      arith,
      c.if-w-edge-gt0.false,
      ap (slice_index c.args.w.now) (c.edge.ensures ∙ ap edge_of c.next-y.ensures.next),
    )))
