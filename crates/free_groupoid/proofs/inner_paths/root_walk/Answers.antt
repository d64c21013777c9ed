use Rattle.std.proofs.Common.{◌∙◌, ap}
use Rattle.std.specs.List.{flat_map}
use Rattle.std.proofs.lemmas.List.{take_all}
use Rattle.free_groupoid.specs.GroupoidMaps.{vertex_image}
use Rattle.free_groupoid.specs.TestWalks.{loop, tree_walk}
use Rattle.free_groupoid.proofs.ForestReads.{walk_read}
use Rattle.free_groupoid.proofs.ComputedWords.{root_computed}
use Rattle.free_groupoid.proofs.inner_paths.root_walk.Goals as goal

pub returns : goal.returns
returns c =
    root_computed c.args.tri.now _ (vertex_image c.args.f.now) c.args.r _ _ _ _ c.in_ok-conjugator.ensures.value
    (c.loop-x.invariant ∙ ap (flat_map (loop c.args.tri.now)) (take_all _ _ c.loop-x-test.false
    ∙ c.deref-x-items.ensures.value))
    (c.walk.ensures ∙ walk_read _ _ _ c.requires.trees ∙ ap (tree_walk c.args.tri.now) c.vertex.ensures)
    c.in_ok-extend_from_slice.ensures.items
