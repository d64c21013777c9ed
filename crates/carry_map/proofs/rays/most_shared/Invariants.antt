use Rattle.carry_map.proofs.RayReads.{IsMostBetween}
use Rattle.carry_map.proofs.rays.most_shared.Given as goal

abbrev pub invariant-loop-ray : goal.invariant-loop-ray
invariant-loop-ray l = IsMostBetween l.backs l.fronts l.ray-index l.most
