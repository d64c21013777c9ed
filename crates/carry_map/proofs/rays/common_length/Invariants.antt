use Rattle.carry_map.proofs.RayReads.{IsReadTo}
use Rattle.carry_map.proofs.rays.common_length.Given as goal

abbrev pub invariant-loop-i : goal.invariant-loop-i
invariant-loop-i l = IsReadTo l.u l.v l.i
