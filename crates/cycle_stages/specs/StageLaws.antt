-- What holds of stages as the atlas grows, and of the same stage.
use Rattle.std.specs.Prelude.{◌≡◌}
use Rattle.tri_atlas.specs.Arena.{Arena, Grows}
use Rattle.cycle_stages.specs.KeptStages.{there, IsKept, IsSame}
use Rattle.cycle_stages.specs.declared.stages.Stage.{Stage}

-- a stage stays kept, at the same triangulation, and a stage with the same parts is kept too
pub record StageLaws : Type 0 where
  pub kept : (old new : Arena) (s : Stage) → Grows old new → IsKept old s → IsKept new s
  pub there : (old new : Arena) (s : Stage) → Grows old new → IsKept old s
      → there new s ≡ there old s
  pub same : (arena : Arena) (s t : Stage) → IsKept arena s → IsSame s t → IsKept arena t
