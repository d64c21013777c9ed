-- Coordinates after a move and at the end of a path, and the refusals of numbers that are too
-- large.
use Rattle.std.specs.Prelude.{◌≡◌, ◌+◌, ℕ, suc, ℤ, List, take, count_by}
use Rattle.ideal_tri.specs.Curves.{IsSameCurves}
use Rattle.ideal_tri.specs.Strands.{State, IsDrawing, words_of}
use Rattle.tri_atlas.specs.Moves.{Move}
use Rattle.tri_atlas.specs.Maps.{images_under, IsImageVector}
use Rattle.tri_atlas.specs.Arena.{Arena, MoveHandle, target_of, step_of}
use Rattle.tri_atlas.specs.Paths.{MovePath, moves_of, is_flip}
use Rattle.tri_atlas.specs.MovedVectors.{vector_after, vector_along, move_at, flipped_edge}
use Rattle.tri_atlas.specs.MovedVectors.{new_number, IsOver, IsFirstOver, OverflowsAt}
use Rattle.edge_coords.specs.Coordinates.{Coordinates}
use Rattle.edge_coords.specs.declared.coords.TheConstants.{COORDINATE_LIMIT}
use Rattle.edge_coords.specs.declared.moves.Overflow.{Overflow}
use Rattle.edge_coords.specs.declared.moves.OverflowAt.{OverflowAt}

-- the coordinates after a move
abbrev pub moved_by : Arena → MoveHandle → Coordinates → Coordinates
moved_by arena m c = record {
  tri = target_of arena m;
  numbers = vector_after (step_of arena m) c.numbers;
}

-- the coordinates at the end of a path
abbrev pub moved_along : Arena → MovePath → Coordinates → Coordinates
moved_along arena path c = record {
  tri = path.end;
  numbers = vector_along (moves_of arena path) c.numbers;
}

-- v is the image of w under a map to another triangulation: it counts the crossings of the images
-- of the curves of w, and these images are the curves of v, however both are drawn
pub record IsImage (before : List (List ℤ)) (w : List ℕ) (f : ℤ → List ℤ)
    (target : List (List ℤ)) (v : List ℕ) : Type 0 where
  pub crossings : IsImageVector before w f v
  pub curves : (runs after : List (List State)) → IsDrawing before w runs → IsDrawing target v after
      → IsSameCurves (images_under f (words_of runs)) (words_of after)

-- ---- numbers that are too large

-- the move is a flip that gives this edge this number, 2^126 or more
pub record IsOverflowOf (m : Move) (w : List ℕ) (o : Overflow) : Type 0 where
  pub over : IsOver COORDINATE_LIMIT m w
  pub edge : o.edge ≡ flipped_edge m
  pub value : o.value ≡ new_number m w

-- the first flip of the moves that does so, among the flips forwards and backwards, counted from 1
pub record IsFirstOverflow (w : List ℕ) (moves : List Move) (o : OverflowAt) : Type 0 where
  pub place : ℕ
  pub first : IsFirstOver COORDINATE_LIMIT w moves place
  pub flip : o.flip ≡ count_by is_flip (take (suc place) moves)
  pub edge : o.edge ≡ flipped_edge (move_at moves place)
  pub value : o.value ≡ new_number (move_at moves place) (vector_along (take place moves) w)

-- so the image of w overflows first after that flip
pub record IsOverflowAlong (triples : List (List ℤ)) (w : List ℕ) (moves : List Move)
    (o : OverflowAt) : Type 0 where
  pub first : IsFirstOverflow w moves o
  pub overflows : OverflowsAt COORDINATE_LIMIT triples w moves first.place
