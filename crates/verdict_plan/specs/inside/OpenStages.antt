-- The stages of which the further candidates are made.
use Rattle.std.specs.Prelude.{◌≡◌, ◌⊎◌, ℕ, List, []}
use Rattle.tri_atlas.specs.Arena.{Arena, triangulation}
use Rattle.tri_atlas.specs.Paths.{MovePath, moves_of}
use Rattle.cycle_stages.specs.OpenCycles.{IsOpenCycle}
use Rattle.cycle_stages.specs.StageLists.{AreStages}
use Rattle.cycle_stages.specs.declared.stages.Stage.{Stage}
use Rattle.verdict_plan.specs.AllCandidates.{AreNoFurther}

-- those of the first cycle that is nonperipheral, under a path from the base to the base
pub record AreOpenStages (arena : Arena) (word : MovePath) (stages : List Stage) : Type 0 where
  pub vector : List ℕ
  pub open_cycle : IsOpenCycle (triangulation arena 0) vector
  pub are_stages : AreStages arena (triangulation arena 0) (moves_of arena word) vector stages

-- none where there are no further candidates within the budget
abbrev pub AreFurtherStages : Arena → MovePath → ℕ → List Stage → Type 0
AreFurtherStages arena word budget stages =
    ((stages ≡ []) × AreNoFurther (triangulation arena 0) budget) ⊎ AreOpenStages arena word stages
