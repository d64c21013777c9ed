use Rattle.free_groupoid.proofs.Sprouting.{IsPlanted}
use Rattle.free_groupoid.proofs.forest.Forest.new.Given as goal

abbrev pub invariant-loop-t : goal.invariant-loop-t
invariant-loop-t l = IsPlanted l.tri l.nodes.items l.t
