use Rattle.std.proofs.Common.{◌≡◌, pos, map, take}
use Rattle.ideal_tri.specs.Words.{cyclic_reduce}
use Rattle.free_groupoid.specs.TestWalks.{loop}
use Rattle.free_groupoid.specs.inside.Images.{words_of}
use Rattle.free_groupoid.proofs.ForestReads.{IsMultiplying}
use Rattle.free_groupoid.proofs.test_list.test_words.Given as goal

abbrev pub invariant-loop-e : goal.invariant-loop-e
invariant-loop-e l = words_of l.words.items ≡ map (λ e. cyclic_reduce (loop l.tri (pos e))) (take l.e-index l.e-items)

abbrev pub invariant-loop-k : goal.invariant-loop-k
invariant-loop-k l = IsMultiplying l.tri l.edges.items (words_of l.words.items) l.k
