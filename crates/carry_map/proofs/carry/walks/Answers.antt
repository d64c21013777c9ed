use Rattle.std.proofs.Common.{◌∙◌, ap}
use Rattle.ideal_tri.specs.Triangulations.{triangle_of}
use Rattle.tri_atlas.specs.Arena.{triangulation}
use Rattle.free_groupoid.specs.GroupoidMaps.{vertex_image}
use Rattle.train_track.specs.Branches.{letter_at}
use Rattle.carry_map.specs.Anchors.{Place}
use Rattle.carry_map.proofs.WalkLists.{connects_more, words_taken, starts_more}
use Rattle.carry_map.proofs.carry.walks.Goals as goal

pub loop-i-preserved : goal.loop-i-preserved
loop-i-preserved c =
    let less = c.loop-i-test.true in (
      connects_more c.args.anchors.now c.loop-i.walks.items c.push.new.self.items _ c.loop-i.i c.index-anchors-i.result
          less c.index-anchors-i.is c.loop-i.invariant.0
          (c.in_ok-letters.ensures.items ∙ c.deref.ensures.value ∙ ap (λ (p : Place). p.connect) c.place.view_is)
          c.in_ok-push.ensures.items,
      starts_more
          (λ k. vertex_image c.args.psi.now (triangle_of (triangulation c.args.atlas.now c.args.track.now.tri)
          (letter_at c.args.track.now.switches k)))
          c.loop-i.walks.items c.push.new.self.items _ c.loop-i.i
          (words_taken c.args.anchors.now c.loop-i.walks.items c.loop-i.i less c.loop-i.invariant.0)
          c.in_ok-push.ensures.items c.loop-i.invariant.1 c.start_of_image-start.ensures,
    )
