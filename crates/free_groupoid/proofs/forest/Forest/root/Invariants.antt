use Rattle.std.proofs.Common.{◌≡◌, drop}
use Rattle.free_groupoid.specs.TestWalks.{node_at}
use Rattle.free_groupoid.proofs.forest.Forest.root.Given as goal

abbrev pub invariant-loop-n : goal.invariant-loop-n
invariant-loop-n l = node_at (drop l.n-index l.self) l.t ≡ node_at l.self l.t
