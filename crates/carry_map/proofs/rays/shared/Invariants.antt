use Rattle.carry_map.proofs.RayReads.{IsMostSoFar}
use Rattle.carry_map.proofs.rays.shared.Given as goal

abbrev pub invariant-loop-ray : goal.invariant-loop-ray
invariant-loop-ray l = IsMostSoFar l.word l.rays l.ray-index l.most
