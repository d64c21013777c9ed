-- What a relabelling adds to an atlas.
use Rattle.std.specs.Prelude.{◌≡◌, ◌++◌, [], ◌∷◌, ℕ, ℤ, List}
use Rattle.tri_atlas.specs.Moves.{relabel}
use Rattle.tri_atlas.specs.Arena.{Arena, MoveHandle, IsMoveIn, Grows, UsesRoom, source_of}
use Rattle.tri_atlas.specs.Arena.{target_of, step_of, newest}

-- the atlas grows by one move, the relabelling with these images of the labels 0, 1, ..; m is that
-- move, forwards
pub record IsPushed (old new : Arena) (from to : ℕ) (images : List ℤ) (m : MoveHandle)
    : Type 0 where
  pub triangulations : new.triangulations ≡ old.triangulations
  pub moves : new.moves
      ≡ old.moves ++ record { source = from; target = to; move = relabel images } ∷ []
  pub handle : m ≡ newest old.moves
  pub grows : Grows old new
  pub here : IsMoveIn new m
  pub source : source_of new m ≡ from
  pub target : target_of new m ≡ to
  pub step : step_of new m ≡ relabel images
  pub room : UsesRoom old new
