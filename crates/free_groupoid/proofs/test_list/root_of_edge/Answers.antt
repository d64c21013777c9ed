use Rattle.std.proofs.Common.{◌∙◌, ap}
use Rattle.free_groupoid.specs.TestWalks.{root_of}
use Rattle.ideal_tri.specs.Triangulations.{triangle_of}
use Rattle.free_groupoid.proofs.ForestReads.{root_read}
use Rattle.free_groupoid.proofs.test_list.root_of_edge.Goals as goal

pub returns : goal.returns
returns c =
    c.root.ensures ∙ root_read _ _ _ c.requires.trees
    ∙ ap (root_of c.args.tri.now) (c.place.ensures.triangle ∙ ap (triangle_of c.args.tri.now) c.label.ensures)
