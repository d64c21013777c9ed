use Rattle.free_groupoid.proofs.Sprouting.{IsGrown}
use Rattle.free_groupoid.proofs.forest.grow.Given as goal

abbrev pub invariant-loop-k : goal.invariant-loop-k
invariant-loop-k l = IsGrown l.tri l.fn.nodes.items l.t l.nodes.items l.k
