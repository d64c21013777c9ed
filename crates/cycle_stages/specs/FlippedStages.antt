-- A stage over the flip of any edge.
use Rattle.std.specs.Prelude.{◌≡◌, ◌++◌, ◌∷◌, ℕ, ℤ, pos, List, [], Bool, true, false}
use Rattle.ideal_tri.specs.Flips.{flipped}
use Rattle.tri_atlas.specs.Arena.{Arena, flip_of}
use Rattle.tri_atlas.specs.FlipPaths.{IsFlippableEdge}
use Rattle.tri_atlas.specs.MovedVectors.{vector_after, IsOver}
use Rattle.edge_coords.specs.declared.coords.TheConstants.{COORDINATE_LIMIT}
use Rattle.cycle_stages.specs.KeptStages.{there, IsSame}
use Rattle.cycle_stages.specs.declared.stages.Stage.{Stage}

-- the edge can be flipped, and its new number stays below the limit
pub record HasSmallFlip (triples : List (List ℤ)) (w : List ℕ) (e : ℕ) : Type 0 where
  pub flippable : IsFlippableEdge triples e
  pub small : ¬ IsOver COORDINATE_LIMIT (flip_of triples (pos e)) w

-- one flip more, of this edge
pub record IsFlippedOn (old : Arena) (s : Stage) (new : Arena) (t : Stage) (e : ℕ) : Type 0 where
  pub edges : t.edges.items ≡ s.edges.items ++ e ∷ []
  pub leads : there new t ≡ flipped (there old s) (pos e)
  pub numbers : t.coords.numbers ≡ vector_after (flip_of (there old s) (pos e)) s.coords.numbers

-- it was made; or it can't be, and the stage is as it was
abbrev pub HasFlipped : Bool → Arena → Stage → Arena → Stage → ℕ → Type 0
HasFlipped true old s new t e =
    HasSmallFlip (there old s) s.coords.numbers e × IsFlippedOn old s new t e
HasFlipped false old s new t e = (¬ HasSmallFlip (there old s) s.coords.numbers e) × IsSame s t
