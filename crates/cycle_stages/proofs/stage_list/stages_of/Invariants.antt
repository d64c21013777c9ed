use Rattle.tri_atlas.specs.Arena.{triangulation, Grows}
use Rattle.tri_atlas.specs.Paths.{moves_of}
use Rattle.cycle_stages.specs.KeptStages.{IsKept, IsStageIn}
use Rattle.cycle_stages.specs.inside.StagesSoFar.{AreFirstStages}
use Rattle.cycle_stages.proofs.stage_list.stages_of.Given as goal

abbrev pub invariant-loop : goal.invariant-loop
invariant-loop l = record {
  grows : Grows l.fn.atlas l.atlas;
  kept : IsKept l.atlas l.stage;
  stage : IsStageIn l.atlas (triangulation l.fn.atlas 0) (moves_of l.fn.atlas l.word) l.w.numbers l.counter l.stage;
  listed : AreFirstStages l.atlas (triangulation l.fn.atlas 0) (moves_of l.fn.atlas l.word) l.w.numbers l.counter
      l.stages.items;
}
