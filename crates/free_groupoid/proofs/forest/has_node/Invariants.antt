use Rattle.std.proofs.Common.{◌≡◌, drop}
use Rattle.free_groupoid.specs.TestWalks.{has_node}
use Rattle.free_groupoid.proofs.forest.has_node.Given as goal

abbrev pub invariant-loop-n : goal.invariant-loop-n
invariant-loop-n l = has_node (drop l.n-index l.nodes) l.t ≡ has_node l.nodes l.t
