-- What holds of vectors, their curves and the images of these, after moves and along paths.
use Rattle.std.specs.Prelude.{◌≡◌, ◌<◌, ◌≤◌, ◌↔◌, ℕ, suc, ℤ, List, ◌++◌, length, take}
use Rattle.std.specs.Prelude.{slice_index, All}
use Rattle.ideal_tri.specs.Curves.{IsSameCurves}
use Rattle.ideal_tri.specs.Triangulations.{IsTriangulation, IsLabel}
use Rattle.ideal_tri.specs.Vectors.{IsMulticurve, weight}
use Rattle.ideal_tri.specs.Strands.{State, IsDrawing, words_of}
use Rattle.ideal_tri.specs.Relabellings.{image_of, IsRelabelling}
use Rattle.tri_atlas.specs.Moves.{Move, relabel, IsFlip, IsMove, back_of, ArePath, back_along}
use Rattle.tri_atlas.specs.Maps.{image_of_letter, path_map, images_under, IsImageVector, IsFixed}
use Rattle.tri_atlas.specs.MovedVectors.{greater_sum, vector_after, vector_along}
use Rattle.tri_atlas.specs.MovedVectors.{move_at, flipped_edge, new_number}
use Rattle.tri_atlas.specs.MovedVectors.{IsOver, IsFirstOver, OverflowsAt}

-- a move from `before` to `target`, and a multicurve of `before`
pub record MovedLaws (before target : List (List ℤ)) (m : Move) (w : List ℕ) : Type 0 where
  pub multicurve : IsMulticurve target (vector_after m w)
  -- the images of the curves of w are the curves of the vector after the move, in any drawings
  pub curves : (runs after : List (List State)) → IsDrawing before w runs
      → IsDrawing target (vector_after m w) after
      → IsSameCurves (images_under (image_of_letter m) (words_of runs)) (words_of after)
  -- so it counts their crossings
  pub image : IsImageVector before w (image_of_letter m) (vector_after m w)
  pub back : vector_after (back_of m) (vector_after m w) ≡ w

-- the numbers that moves give
pub record NumberLaws : Type 0 where
  -- the number of the edge is never greater than what a flip takes it from, forwards or backwards
  pub enough : (before target : List (List ℤ)) (e a b c d : ℤ) (w : List ℕ) → IsTriangulation before
      → IsFlip before target e a b c d → IsMulticurve before w → weight w e ≤ greater_sum w a b c d
  pub enough_back : (before target : List (List ℤ)) (e a b c d : ℤ) (w : List ℕ)
      → IsTriangulation before → IsFlip before target e a b c d → IsMulticurve target w
      → weight w e ≤ greater_sum w a b c d
  pub moved : (before target : List (List ℤ)) (images : List ℤ) (w : List ℕ) (x : ℤ)
      → IsRelabelling before target images → IsLabel before x
      → weight (vector_after (relabel images) w) (image_of images x) ≡ weight w x

-- a path from `before` to `target`, and a multicurve of `before`
pub record AlongLaws (before target : List (List ℤ)) (moves : List Move) (w : List ℕ) : Type 0 where
  pub multicurve : IsMulticurve target (vector_along moves w)
  pub curves : (runs after : List (List State)) → IsDrawing before w runs
      → IsDrawing target (vector_along moves w) after
      → IsSameCurves (images_under (path_map moves) (words_of runs)) (words_of after)
  pub image : IsImageVector before w (path_map moves) (vector_along moves w)
  pub back : vector_along (back_along moves) (vector_along moves w) ≡ w

-- the same path, and a bound above all entries of w
pub record OverflowLaws (before : List (List ℤ)) (moves : List Move) (w : List ℕ) (bound : ℕ)
    : Type 0 where
  -- the image reaches the bound first where a new number does
  pub first : (k : ℕ) → OverflowsAt bound before w moves k ↔ IsFirstOver bound w moves k
  -- the new number then stands at the edge of the flip, and no other entry reaches the bound
  pub value : (k : ℕ) → IsFirstOver bound w moves k
      → slice_index (vector_along (take (suc k) moves) w) (flipped_edge (move_at moves k))
      ≡ new_number (move_at moves k) (vector_along (take k moves) w)
  pub there : (k e : ℕ) → IsFirstOver bound w moves k → e < length w
      → bound ≤ slice_index (vector_along (take (suc k) moves) w) e
      → e ≡ flipped_edge (move_at moves k)
  -- as long as no new number reaches it, none of the entries does
  pub below : (k : ℕ)
      → ((j : ℕ) → j < k → ¬ IsOver bound (move_at moves j) (vector_along (take j moves) w))
      → All (λ n. n < bound) (vector_along (take k moves) w)

-- all of them, for every move and path
pub record VectorLaws : Type 0 where
  pub numbers : NumberLaws
  pub join : (first second : List Move) (w : List ℕ)
      → vector_along (first ++ second) w ≡ vector_along second (vector_along first w)
  pub next : (moves : List Move) (k : ℕ) (w : List ℕ) → k < length moves
      → vector_along (take (suc k) moves) w
      ≡ vector_after (move_at moves k) (vector_along (take k moves) w)
  pub moves : (before target : List (List ℤ)) (m : Move) (w : List ℕ) → IsTriangulation before
      → IsTriangulation target → IsMove before target m → IsMulticurve before w
      → MovedLaws before target m w
  pub paths : (before target : List (List ℤ)) (moves : List Move) (w : List ℕ)
      → IsTriangulation before → ArePath before moves target → IsMulticurve before w
      → AlongLaws before target moves w
  -- a path back to where it begins fixes the curves exactly where it fixes the vector
  pub fixed : (triples : List (List ℤ)) (moves : List Move) (w : List ℕ) (runs : List (List State))
      → IsTriangulation triples → ArePath triples moves triples → IsMulticurve triples w
      → IsDrawing triples w runs
      → IsFixed (path_map moves) (words_of runs) ↔ (vector_along moves w ≡ w)
  pub overflow : (before target : List (List ℤ)) (moves : List Move) (w : List ℕ) (bound : ℕ)
      → IsTriangulation before → ArePath before moves target → IsMulticurve before w
      → All (λ n. n < bound) w → OverflowLaws before moves w bound
