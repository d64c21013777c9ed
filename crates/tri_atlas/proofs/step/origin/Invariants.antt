use Rattle.std.proofs.Common.{◌≡◌, drop}
use Rattle.ideal_tri.specs.Relabellings.{origin_of, origin_from}
use Rattle.tri_atlas.proofs.step.origin.Given as goal

abbrev pub invariant-loop-k : goal.invariant-loop-k
invariant-loop-k l = origin_of l.images l.x ≡ origin_from l.k (drop l.k l.images) l.x
