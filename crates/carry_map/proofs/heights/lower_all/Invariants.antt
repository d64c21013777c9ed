use Rattle.std.proofs.Common.{take}
use Rattle.carry_map.specs.inside.Heights.{AreHighEnough, FellOrStayed}
use Rattle.carry_map.proofs.heights.lower_all.Given as goal

abbrev pub invariant-loop-step : goal.invariant-loop-step
invariant-loop-step l = record {
  high : AreHighEnough l.counts l.steps l.heights;
  fell : FellOrStayed l.counts (take l.step-index l.steps) l.initial.heights l.heights l.fell;
}
