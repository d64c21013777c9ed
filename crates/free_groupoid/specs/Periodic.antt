-- Powers of a path from a triangulation to itself, and periodic maps (Farb and Margalit, chapter
-- 13). The k-th power of a path is its moves taken k times, so that its map is the map of the path
-- taken k times.
use Rattle.std.specs.Prelude.{◌≡◌, ◌<◌, ◌≤◌, ◌+◌, ℕ, ℤ, List, [], length, take, slice_index_or}
use Rattle.std.specs.List.{All, repeat}
use Rattle.ideal_tri.specs.Words.{IsReduced}
use Rattle.tri_atlas.specs.Maps.{IsMap, letters_of, path_map}
use Rattle.tri_atlas.specs.Moves.{Move}
use Rattle.free_groupoid.specs.Inner.{IsInner, IsKept}
use Rattle.free_groupoid.specs.MapRefusals.{told}
use Rattle.free_groupoid.specs.TestWalks.{test_walks}

-- ---- inner powers

-- the map of the moves, with where it sends the triangles, is inner by these walks
pub record IsInnerAlong (triples : List (List ℤ)) (moves : List Move) (paths : ℕ → List ℤ)
    : Type 0 where
  pub triangles : ℕ → ℕ
  pub map : IsMap triples triples (path_map moves) triangles
  pub inner : IsInner triples (path_map moves) triangles paths

-- by some walks
abbrev pub IsInnerPath : List (List ℤ) → List Move → Type 0
IsInnerPath triples moves = (paths : ℕ → List ℤ) × IsInnerAlong triples moves paths

-- by these reduced walks, one from each triangle in order
pub record AreInnerWalks (triples : List (List ℤ)) (moves : List Move) (walks : List (List ℤ))
    : Type 0 where
  pub one_per_triangle : length walks ≡ length triples
  pub reduced : (t : ℕ) → t < length triples → IsReduced (slice_index_or walks t [])
  pub inner : IsInnerAlong triples moves (λ t. slice_index_or walks t [])

-- the power of this order is the least positive one whose map is inner
pub record IsPeriodic (triples : List (List ℤ)) (moves : List Move) (order : ℕ) : Type 0 where
  pub positive : 0 < order
  pub inner : IsInnerPath triples (repeat order moves)
  pub least : (j : ℕ) → 0 < j → j < order → ¬ IsInnerPath triples (repeat j moves)

-- the first of the test walks that a map doesn't carry to itself, up to rotation
pub record IsFirstTest (triples : List (List ℤ)) (f : ℤ → List ℤ) (w : List ℤ) : Type 0 where
  pub place : ℕ
  pub within : place < length (test_walks triples)
  pub walk : w ≡ slice_index_or (test_walks triples) place []
  pub moved : ¬ IsKept f w
  pub before : All (IsKept f) (take place (test_walks triples))

-- ---- the letters of maps

-- after each of the moves the map has at most so many letters
abbrev pub IsWithin : List (List ℤ) → List Move → ℕ → Type 0
IsWithin triples moves cap =
    (made : ℕ) → made < length moves
    → letters_of triples (path_map (take (made + 1) moves)) ≤ cap

-- behind so many of the moves comes the first after which the map has more letters than the cap;
-- so many are told
pub record IsFirstPast (triples : List (List ℤ)) (moves : List Move) (cap made letters : ℕ)
    : Type 0 where
  pub more_moves : made < length moves
  pub before : IsWithin triples (take made moves) cap
  pub past : cap < letters_of triples (path_map (take (made + 1) moves))
  pub number : letters ≡ told (letters_of triples (path_map (take (made + 1) moves)))
