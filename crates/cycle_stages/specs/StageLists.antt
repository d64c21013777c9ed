-- The stages of one cycle, one after another.
use Rattle.std.specs.Prelude.{◌<◌, ◌≤◌, ◌-◌, ℕ, ℤ, List, length, min, All, slice_index_or}
use Rattle.tri_atlas.specs.Arena.{Arena}
use Rattle.tri_atlas.specs.Moves.{Move}
use Rattle.cycle_stages.specs.KeptStages.{IsKept, IsStageIn}
use Rattle.cycle_stages.specs.declared.stages.Stage.{Stage}

-- how many depths there are
abbrev pub depth_count : ℕ
depth_count = 56

-- the place of the stage of a depth among so many: where the flips end early, the last stage is that
-- of all greater depths too
abbrev pub place_of : ℕ → ℕ → ℕ
place_of count depth = min depth (count - 1)

-- the stages of all depths of the cycle with the vector w; equal ones at the end are not repeated
pub record AreStages (arena : Arena) (triples : List (List ℤ)) (moves : List Move) (w : List ℕ)
    (stages : List Stage) : Type 0 where
  pub some : 0 < length stages
  pub few : length stages ≤ depth_count
  pub kept : All (IsKept arena) stages
  pub short : All (λ s. length s.edges.items < depth_count) stages
  pub each : (depth : ℕ) (other : Stage) → depth < depth_count
      → IsStageIn arena triples moves w depth
      (slice_index_or stages (place_of (length stages) depth) other)
