use Rattle.std.proofs.Common.{sum}
use Rattle.carry_map.specs.inside.Heights.{AreHighEnough}
use Rattle.carry_map.proofs.heights.greatest_heights.Given as goal

abbrev pub invariant-loop : goal.invariant-loop
invariant-loop l = AreHighEnough l.counts l.steps l.heights.items

abbrev pub decreases-loop : goal.decreases-loop
decreases-loop l = sum l.heights.items
