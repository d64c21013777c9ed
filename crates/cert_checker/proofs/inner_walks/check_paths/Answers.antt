use Rattle.std.proofs.Common.{ℤ, List, [], ◌≡◌, ◌∙◌, IsTrue, subst, get_or, below_more, arith, rules}
use Rattle.ideal_tri.specs.Triangulations.{IsWalk}
use Rattle.ideal_tri.specs.Words.{IsReduced}
use Rattle.free_groupoid.specs.GroupoidMaps.{vertex_image}
use Rattle.cert_text.specs.Certificates.{walks_of}
use Rattle.cert_checker.proofs.WalkReading.{walk_read, walk_count}
use Rattle.cert_checker.proofs.inner_walks.check_paths.Goals as goal

pub loop-t-preserved : goal.loop-t-preserved
loop-t-preserved c =
    let path : c.index-paths-t.result.items ≡ get_or (walks_of c.args.paths.now) c.loop-t.t [] =
    walk_read c.args.paths.now c.loop-t.t c.index-paths-t.result
    (omega (arith, c.loop-t-test.true, c.triangles-t-end.ensures.count, c.requires.one_each, walk_count c.args.paths.now))
    c.index-paths-t.is in
    let walks : IsTrue c.is_walk.result = search rules in
    let reduced : IsTrue c.is_reduced.result = search rules in
    below_more _ _ c.loop-t.invariant (
      subst (λ (w : List ℤ). IsWalk c.args.tri.now c.loop-t.t w (vertex_image c.args.map.now c.loop-t.t))
          (c.deref.ensures.value ∙ path)
          (rw (← c.vertex.ensures) (c.is_walk.ensures.0 walks)),
      subst IsReduced (c.deref-else-not-is_walk.ensures.value ∙ path) (c.is_reduced.ensures.0 reduced),
    )
