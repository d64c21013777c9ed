use Rattle.free_groupoid.proofs.ForestReads.{IsSorting}
use Rattle.free_groupoid.proofs.test_list.outer_edges.Given as goal

abbrev pub invariant-loop-e : goal.invariant-loop-e
invariant-loop-e l = IsSorting l.tri l.edges.items l.e
