use Rattle.carry_map.proofs.RayReads.{IsCommonSoFar}
use Rattle.carry_map.proofs.rays.common.Given as goal

abbrev pub invariant-loop-k : goal.invariant-loop-k
invariant-loop-k l = IsCommonSoFar l.rays l.letters l.k l.count
