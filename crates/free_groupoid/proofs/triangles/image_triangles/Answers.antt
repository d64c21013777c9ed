use Rattle.std.proofs.Common.{◌≡◌, ◌∙◌, ◌<◌, ℕ, ap, arith, length, get_or, take}
use Rattle.std.proofs.lemmas.List.{get_or_default}
use Rattle.ideal_tri.specs.Triangulations.{triangle_of}
use Rattle.tri_atlas.specs.Moves.{first_side}
use Rattle.free_groupoid.specs.declared.triangles.TheConstants.{TRIANGLES}
use Rattle.free_groupoid.proofs.FirstSides.{first_read, first_side_at}
use Rattle.free_groupoid.proofs.Filling.{filled_more, filled_all}
use Rattle.free_groupoid.proofs.triangles.image_triangles.Goals as goal

pub loop-t-preserved : goal.loop-t-preserved
loop-t-preserved c = λ images j.
    let inside : c.loop-t.t < length c.args.source.now = omega arith in
    let three : 0 < length c.triple.result = omega arith in
    let read : get_or c.triple.result 0 c.index-triple-0.result ≡ first_side c.args.source.now c.loop-t.t =
    first_read c.args.source.now c.loop-t.t c.triple.result c.index-triple-0.result c.triple.ensures.triple three in
    let place : triangle_of c.args.source.now (get_or c.triple.result 0 c.index-triple-0.result) ≡ c.loop-t.t =
    ap (triangle_of c.args.source.now) read
    ∙ (first_side_at c.args.source.now c.triangles-t-end.ensures.sound (c.surface_laws.ensures.triangles _
    c.triangles-t-end.ensures.sound) _ inside).1 in
    let many : c.loop-t.t < length images = omega (arith, j.one_per_triangle) in
    filled_more images _ _ _ (c.loop-t.invariant images j)
    (let room : c.loop-t.t < TRIANGLES = omega (
      arith,
      c.triangles-t-end.ensures.size.few,
      c.triangles-t-end.ensures.sound.edges,
    ) in room)
    many
    (c.side_image.ensures c.args.source.now images j (c.triple.ensures.labels 0 c.index-triple-0.result three)
    ∙ ap (λ (t : ℕ). get_or images t 0) place ∙ get_or_default images c.loop-t.t 0 c.side_image.result many)

pub returns : goal.returns
returns c = λ images j.
    ap (λ (n : ℕ). take n c.loop-t.triangles) (let all : length c.args.source.now ≡ c.loop-t.t = omega arith in all)
    ∙ filled_all images _ _ (c.loop-t.invariant images j) (omega (arith, j.one_per_triangle))
