-- What holds of relabellings that are kept in an atlas.
use Rattle.std.specs.Prelude.{◌≡◌, ℕ, ℤ, List}
use Rattle.ideal_tri.specs.Relabellings.{inverse_images}
use Rattle.tri_atlas.specs.Arena.{Arena, MoveHandle, IsArena, Grows, source_of, target_of, step_of}
use Rattle.tri_atlas.specs.Arena.{back}
use Rattle.relabel.specs.Pushed.{IsPushed}

-- the two moves start and end at the same triangulations, and do the same
pub record DoTheSame (arena : Arena) (m n : MoveHandle) : Type 0 where
  pub source : source_of arena m ≡ source_of arena n
  pub target : target_of arena m ≡ target_of arena n
  pub step : step_of arena m ≡ step_of arena n

-- a relabelling pushed and read backwards is the inverse relabelling pushed, whenever the two are
-- pushed
pub record PushLaws : Type 0 where
  pub back : (before after later latest arena : Arena) (from to : ℕ)
      (images : List ℤ) (m n : MoveHandle) → IsArena arena
      → IsPushed before after from to images m → Grows after arena
      → IsPushed later latest to from (inverse_images images) n → Grows latest arena
      → DoTheSame arena (back m) n
