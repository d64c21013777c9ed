use Rattle.std.proofs.Common.{map, get_or}
use Rattle.free_groupoid.proofs.Filling.{IsFilled}
use Rattle.free_groupoid.proofs.triangles.composed_triangles.Given as goal

abbrev pub invariant-loop-k : goal.invariant-loop-k
invariant-loop-k l = IsFilled (map (λ t. get_or l.second t 0) l.first) l.composed l.k
