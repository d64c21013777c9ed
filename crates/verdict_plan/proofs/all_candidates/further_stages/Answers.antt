use Rattle.std.proofs.Common.{ℤ, List, inl, inr}
use Rattle.std.proofs.lemmas.Result.{IfOk-weaker}
use Rattle.tri_atlas.specs.Moves.{Move}
use Rattle.cycle_stages.specs.OpenCycles.{IsOpenCycle}
use Rattle.cycle_stages.specs.StageLists.{AreStages}
use Rattle.verdict_plan.proofs.GrownBase.{onward}
use Rattle.verdict_plan.proofs.all_candidates.further_stages.Goals as goal

pub returns-then-budget-lt-FURTHER_BUDGET-clause-stages : goal.returns-then-budget-lt-FURTHER_BUDGET-clause-stages
returns-then-budget-lt-FURTHER_BUDGET-clause-stages c =
    inl (c.new.ensures.items, inl c.if-budget-lt-FURTHER_BUDGET.true)

pub stages_of-requires-clause-coordinates : goal.stages_of-requires-clause-coordinates
stages_of-requires-clause-coordinates c =
    let opened = rw c.in-Some.is at c.in_ok-w.ensures.some in
    opened.here

pub stages_of-requires-clause-base : goal.stages_of-requires-clause-base
stages_of-requires-clause-base c =
    let opened = rw c.in-Some.is at c.in_ok-w.ensures.some in
    opened.base

pub returns-in-Some-clause-stages : goal.returns-in-Some-clause-stages
returns-in-Some-clause-stages c =
    let opened = rw c.in-Some.is at c.in_ok-w.ensures.some in
    IfOk-weaker c.stages_of.result _ _
    (λ stages h. inr (record {
      vector = c.in-Some.w.numbers;
      open_cycle = onward c.atlas_laws.ensures.growth c.args.atlas.now c.stages_of.new.atlas c.args.word.now
          c.stages_of.ensures.grows c.base.ensures.sound.base c.requires.closed
          (λ (ts : List (List ℤ)) (ms : List Move). IsOpenCycle ts c.in-Some.w.numbers) opened.cycle;
      are_stages = onward c.atlas_laws.ensures.growth c.args.atlas.now c.stages_of.new.atlas c.args.word.now
          c.stages_of.ensures.grows c.base.ensures.sound.base c.requires.closed
          (λ (ts : List (List ℤ)) (ms : List Move). AreStages c.stages_of.new.atlas ts ms c.in-Some.w.numbers
          stages.items) h;
    }))
    c.stages_of.ensures.stages

pub returns-in-None-clause-stages : goal.returns-in-None-clause-stages
returns-in-None-clause-stages c =
    let none = rw c.in-None.is at c.in_ok-w.ensures.none in
    inl (c.new-in-None.ensures.items, inr none)
