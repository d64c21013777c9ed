use Rattle.std.proofs.Common.{List, subst, take_all}
use Rattle.std.proofs.lemmas.List.Elements.{Contains-get_or}
use Rattle.carry_map.specs.declared.heights.Step.{Step}
use Rattle.carry_map.specs.inside.Heights.{FellOrStayed}
use Rattle.carry_map.proofs.LoweredHeights.{fell_or_stayed-more}
use Rattle.carry_map.proofs.heights.lower_all.Goals as goal

pub loop-step-preserved : goal.loop-step-preserved
loop-step-preserved c = record {
  high =
      c.lower-fell.ensures.high c.args.steps.now
      (Contains-get_or c.args.steps.now c.loop-step.step-index _ c.loop-step-test.true) c.loop-step.invariant.high;
  fell =
      fell_or_stayed-more c.args.counts.now c.args.steps.now c.loop-step.step-index _ c.args.heights.now
      c.loop-step.heights c.lower-fell.new.heights c.loop-step.fell c.lower-fell.result c.loop-step-test.true
      c.loop-step.invariant.fell c.lower-fell.ensures.fell;
}

pub returns-clause-fell : goal.returns-clause-fell
returns-clause-fell c =
    subst
    (λ (done : List Step). FellOrStayed c.args.counts.now done c.args.heights.now c.loop-step.heights c.loop-step.fell)
    (take_all c.loop-step.step-index c.args.steps.now c.loop-step-test.false) c.loop-step.invariant.fell
