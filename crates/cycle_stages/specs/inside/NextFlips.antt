-- The last image that stays small, and the flip that comes next.
use Rattle.std.specs.Prelude.{◌≡◌, ◌<◌, ◌≤◌, ℕ, ℤ, pos, List, Option, MatchOption, slice_index}
use Rattle.ideal_tri.specs.Flips.{flipped}
use Rattle.ideal_tri.specs.Labels.{inverse}
use Rattle.ideal_tri.specs.Triangulations.{next, previous}
use Rattle.tri_atlas.specs.Arena.{Arena, MoveHandle, triangulation, IsMoveIn, source_of, target_of}
use Rattle.tri_atlas.specs.Arena.{step_of, flip_of}
use Rattle.tri_atlas.specs.FlipPaths.{IsFlippableEdge}
use Rattle.tri_atlas.specs.Moves.{Move}
use Rattle.tri_atlas.specs.MovedVectors.{flipped_number, greater_sum, IsOver}
use Rattle.edge_coords.specs.declared.coords.TheConstants.{COORDINATE_LIMIT}
use Rattle.multicurve_cert.specs.Candidates.{image_number}
use Rattle.cycle_stages.specs.Stages.{IsGreatest, IsLastSmall}

-- ---- the image

-- the last image that stays small
pub record IsLastImage (triples : List (List ℤ)) (moves : List Move) (w v : List ℕ) : Type 0 where
  pub times : ℕ
  pub last : IsLastSmall triples moves w times
  pub numbers : v ≡ image_number triples moves w times

-- ---- the next flip

-- e is the greatest among the first n edges
pub record IsGreatestBefore (triples : List (List ℤ)) (w : List ℕ) (n e : ℕ) : Type 0 where
  pub within : e < n
  pub flippable : IsFlippableEdge triples e
  pub greatest : (f : ℕ) → f < n → IsFlippableEdge triples f → slice_index w f ≤ slice_index w e
  pub first : (f : ℕ) → f < e → IsFlippableEdge triples f → slice_index w f < slice_index w e

-- the greatest of the first n edges, or none of these can be flipped
abbrev pub IsFound : List (List ℤ) → List ℕ → ℕ → Option ℕ → Type 0
IsFound triples w n best =
    MatchOption best ((f : ℕ) → f < n → ¬ IsFlippableEdge triples f)
    (IsGreatestBefore triples w n)

-- the greater sum of opposite sides of the quadrilateral of an edge, and its number after the flip
abbrev pub sum_beside : List (List ℤ) → List ℕ → ℕ → ℕ
sum_beside triples w e =
    greater_sum w (next triples (pos e)) (previous triples (pos e)) (next triples (inverse (pos e)))
    (previous triples (inverse (pos e)))

abbrev pub number_flipped : List (List ℤ) → List ℕ → ℕ → ℕ
number_flipped triples w e =
    flipped_number w (pos e) (next triples (pos e)) (previous triples (pos e))
    (next triples (inverse (pos e))) (previous triples (inverse (pos e)))

-- the greatest edge, whose flip gives it a number below the limit
pub record IsNext (triples : List (List ℤ)) (w : List ℕ) (e : ℕ) : Type 0 where
  pub greatest : IsGreatest triples w e
  pub small : ¬ IsOver COORDINATE_LIMIT (flip_of triples (pos e)) w

-- the move is the flip of an edge of a triangulation
pub record IsFlipIn (old new : Arena) (t e : ℕ) (m : MoveHandle) : Type 0 where
  pub here : IsMoveIn new m
  pub source : source_of new m ≡ t
  pub after : triangulation new (target_of new m) ≡ flipped (triangulation old t) (pos e)
  pub step : step_of new m ≡ flip_of (triangulation old t) (pos e)
