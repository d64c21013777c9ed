use Rattle.std.proofs.Common.{◌≡◌, ◌++◌, pos, map, drop}
use Rattle.ideal_tri.specs.Words.{cyclic_reduce}
use Rattle.free_groupoid.specs.TestWalks.{loop, edges_at, root_of_edge}
use Rattle.free_groupoid.specs.inside.Images.{words_of}
use Rattle.free_groupoid.proofs.test_list.push_products.Given as goal

abbrev pub invariant-loop-j : goal.invariant-loop-j
invariant-loop-j l =
    words_of l.words.items
    ++ map (λ j. cyclic_reduce (loop l.tri (pos l.i) ++ loop l.tri (pos j))) (edges_at l.tri (root_of_edge l.tri l.i)
    (drop l.j-index l.others))
    ≡ words_of l.fn.words.items
    ++ map (λ j. cyclic_reduce (loop l.tri (pos l.i) ++ loop l.tri (pos j))) (edges_at l.tri (root_of_edge l.tri l.i)
    l.others)
