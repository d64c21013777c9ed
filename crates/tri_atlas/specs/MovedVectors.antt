-- The vector of a multicurve after a move and along a path, from its numbers alone.
use Rattle.std.specs.Prelude.{◌≡◌, ◌<◌, ◌≤◌, ◌+◌, ◌-◌, ℕ, suc, ℤ, true, List, [], ◌∷◌, length}
use Rattle.std.specs.Prelude.{map, max, take, slice_index_or, slice_set}
use Rattle.ideal_tri.specs.Labels.{edge_of}
use Rattle.ideal_tri.specs.Triangulations.{edge_count}
use Rattle.ideal_tri.specs.Vectors.{weight}
use Rattle.ideal_tri.specs.Curves.{crossings}
use Rattle.ideal_tri.specs.Strands.{State, IsDrawing, words_of}
use Rattle.ideal_tri.specs.Relabellings.{inverse_images}
use Rattle.tri_atlas.specs.Moves.{Move, flip, unflip, relabel}
use Rattle.tri_atlas.specs.Maps.{images_under, path_map}
use Rattle.tri_atlas.specs.Paths.{is_flip}

-- the greater of the two sums of opposite sides of a quadrilateral (Mosher; Penner and Harer)
abbrev pub greater_sum : List ℕ → ℤ → ℤ → ℤ → ℤ → ℕ
greater_sum w a b c d = max (weight w a + weight w c) (weight w b + weight w d)

-- the number that a flip with these sides gives its edge
abbrev pub flipped_number : List ℕ → ℤ → ℤ → ℤ → ℤ → ℤ → ℕ
flipped_number w e a b c d = greater_sum w a b c d - weight w e

-- the vector after a move. A flip changes the number of its edge alone; a relabelling moves the
-- number of x to the edge of the image of x
abbrev pub vector_after : Move → List ℕ → List ℕ
vector_after (flip e a b c d) w = slice_set w (edge_of e) (flipped_number w e a b c d)
vector_after (unflip e a b c d) w = slice_set w (edge_of e) (flipped_number w e a b c d)
vector_after (relabel images) w = map (weight w) (inverse_images images)

-- the vector after all moves of a path
abbrev pub vector_along : List Move → List ℕ → List ℕ
vector_along [] w = w
vector_along (m ∷ moves) w = vector_along moves (vector_after m w)

-- ---- numbers that reach a bound

-- the move at this place of a path
abbrev pub move_at : List Move → ℕ → Move
move_at moves k = slice_index_or moves k (relabel [])

-- the edge that a flip changes
abbrev pub flipped_edge : Move → ℕ
flipped_edge (flip e a b c d) = edge_of e
flipped_edge (unflip e a b c d) = edge_of e
flipped_edge (relabel images) = 0

-- the number that a flip gives that edge
abbrev pub new_number : Move → List ℕ → ℕ
new_number (flip e a b c d) w = flipped_number w e a b c d
new_number (unflip e a b c d) w = flipped_number w e a b c d
new_number (relabel images) w = 0

-- the move is a flip whose new number reaches the bound
abbrev pub IsOver : ℕ → Move → List ℕ → Type 0
IsOver bound m w = (is_flip m ≡ true) × (bound ≤ new_number m w)

-- the first flip whose new number reaches the bound is the move at place k
pub record IsFirstOver (bound : ℕ) (w : List ℕ) (moves : List Move) (k : ℕ) : Type 0 where
  pub within : k < length moves
  pub over : IsOver bound (move_at moves k) (vector_along (take k moves) w)
  pub first : (j : ℕ) → j < k → ¬ IsOver bound (move_at moves j) (vector_along (take j moves) w)

-- the images of the curves of w under a map, in some drawing, cross an edge as often as the bound
-- says, or more
pub record ImageReaches (bound : ℕ) (triples : List (List ℤ)) (w : List ℕ) (f : ℤ → List ℤ)
    : Type 0 where
  pub runs : List (List State)
  pub drawing : IsDrawing triples w runs
  pub edge : ℕ
  pub is_edge : edge < edge_count triples
  pub reaches : bound ≤ crossings edge (images_under f (words_of runs))

-- the first flip after which the image of w reaches the bound is the move at place k
pub record OverflowsAt (bound : ℕ) (triples : List (List ℤ)) (w : List ℕ) (moves : List Move)
    (k : ℕ) : Type 0 where
  pub within : k < length moves
  pub flips : is_flip (move_at moves k) ≡ true
  pub reaches : ImageReaches bound triples w (path_map (take (suc k) moves))
  pub first : (j : ℕ) → j < k → is_flip (move_at moves j) ≡ true
      → ¬ ImageReaches bound triples w (path_map (take (suc j) moves))
