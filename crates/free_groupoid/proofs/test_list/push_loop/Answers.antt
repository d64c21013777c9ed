use Rattle.std.proofs.Common.{◌∙◌, ap}
use Rattle.std.proofs.lemmas.Result.{on_ok_weaker}
use Rattle.ideal_tri.specs.Triangulations.{triangle_of}
use Rattle.free_groupoid.specs.TestWalks.{tree_walk}
use Rattle.free_groupoid.proofs.ForestReads.{walk_read, looped}
use Rattle.free_groupoid.proofs.test_list.push_loop.Goals as goal

pub returns : goal.returns
returns c =
    on_ok_weaker c.push_inverse.result
    (looped _ _ _ _ _ _ _ _
    (c.walk.ensures ∙ walk_read _ _ _ c.requires.trees ∙ ap (tree_walk c.args.tri.now) c.place.ensures.triangle)
    (c.walk-2.ensures ∙ walk_read _ _ _ c.requires.trees
    ∙ ap (tree_walk c.args.tri.now) (c.place-2.ensures.triangle ∙ ap (triangle_of c.args.tri.now) c.inverse.ensures))
    c.in_ok-extend_from_slice.ensures.items c.in_ok-push.ensures.items)
    c.push_inverse.ensures
