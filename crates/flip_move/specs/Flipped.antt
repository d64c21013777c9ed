-- What a flip adds to an atlas, and when it is refused.
use Rattle.std.specs.Prelude.{◌≡◌, ◌++◌, [], ◌∷◌, length}
use Rattle.ideal_tri.specs.Flips.{IsFlippable, flipped}
use Rattle.tri_atlas.specs.Arena.{Arena, EdgeHandle, MoveHandle, triangulation, IsMoveIn, Grows}
use Rattle.tri_atlas.specs.Arena.{UsesRoom, source_of, target_of, step_of, flip_of, flip_entry}
use Rattle.tri_atlas.specs.Arena.{newest}
use Rattle.flip_move.specs.declared.FlipError.{FlipError}
use Rattle.flip_move.specs.declared.FlipError.TheVariants.{NotFlippable, Memory}

-- the edge has two triangles at it
abbrev pub IsFlippableIn : Arena → EdgeHandle → Type 0
IsFlippableIn arena e = IsFlippable (triangulation arena e.tri) e.label

-- the atlas grows by one triangulation, the flipped one, and by one move, the flip with its four
-- sides; m is that move, forwards
pub record IsFlipped (old new : Arena) (e : EdgeHandle) (m : MoveHandle) : Type 0 where
  pub triangulations : new.triangulations
      ≡ old.triangulations ++ flipped (triangulation old e.tri) e.label ∷ []
  pub moves : new.moves ≡ old.moves ++ flip_entry old e ∷ []
  pub handle : m ≡ newest old.moves
  pub grows : Grows old new
  pub here : IsMoveIn new m
  pub source : source_of new m ≡ e.tri
  pub target : target_of new m ≡ length old.triangulations
  pub after : triangulation new (target_of new m) ≡ flipped (triangulation old e.tri) e.label
  pub step : step_of new m ≡ flip_of (triangulation old e.tri) e.label
  pub room : UsesRoom old new

-- this refusal fits: whether the edge is flippable is tested first, and memory is wanted only where
-- there is no room
abbrev pub IsRefusedFor : Arena → EdgeHandle → FlipError → Type 0
IsRefusedFor arena e NotFlippable = ¬ IsFlippableIn arena e
IsRefusedFor arena e Memory = IsFlippableIn arena e × (arena.spare ≡ 0)
