-- The stages of the first depths, while they are listed.
use Rattle.std.specs.Prelude.{◌≡◌, ◌<◌, ℕ, ℤ, List, length, All, slice_index_or}
use Rattle.tri_atlas.specs.Arena.{Arena}
use Rattle.tri_atlas.specs.Moves.{Move}
use Rattle.cycle_stages.specs.KeptStages.{IsKept, IsStageIn}
use Rattle.cycle_stages.specs.declared.stages.Stage.{Stage}

-- the stages of the depths below n
pub record AreFirstStages (arena : Arena) (triples : List (List ℤ)) (moves : List Move) (w : List ℕ)
    (n : ℕ) (stages : List Stage) : Type 0 where
  pub one_each : length stages ≡ n
  pub kept : All (IsKept arena) stages
  pub each : (depth : ℕ) (other : Stage) → depth < n
      → IsStageIn arena triples moves w depth (slice_index_or stages depth other)
