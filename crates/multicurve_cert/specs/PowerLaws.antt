-- What holds of the images of multicurves under the powers of a word.
use Rattle.std.specs.Prelude.{◌≡◌, ◌≤◌, ◌+◌, ℕ, ℤ, List}
use Rattle.std.specs.List.{repeat}
use Rattle.ideal_tri.specs.Vectors.{IsMulticurve}
use Rattle.tri_atlas.specs.Moves.{Move, ArePath}
use Rattle.tri_atlas.specs.MovedVectors.{vector_along, OverflowsAt}
use Rattle.edge_coords.specs.Coordinates.{AreSmall}
use Rattle.edge_coords.specs.declared.coords.TheConstants.{COORDINATE_LIMIT}
use Rattle.multicurve_cert.specs.Candidates.{HasSmallImage, Overflows, image_vector, image_number}

-- the moves lead from the triangulation to itself
pub record PowerLaws (triples : List (List ℤ)) (moves : List Move) : Type 0 where
  pub path : (n : ℕ) → ArePath triples (repeat n moves) triples
  -- the image is the vector after the moves
  pub image : (w : List ℕ) → IsMulticurve triples w
      → image_vector triples moves w ≡ vector_along moves w
  pub along : (w : List ℕ) (n : ℕ) → IsMulticurve triples w
      → image_number triples moves w n ≡ vector_along (repeat n moves) w
  pub none : (w : List ℕ) → IsMulticurve triples w → image_number triples moves w 0 ≡ w
  -- one time more
  pub next : (w : List ℕ) (n : ℕ) → IsMulticurve triples w
      → image_number triples moves w (n + 1) ≡ vector_along moves (image_number triples moves w n)
  -- numbers below the limit
  pub none_small : (w : List ℕ) → ¬ Overflows triples moves w 0
  pub next_small : (w : List ℕ) (n : ℕ) → IsMulticurve triples w → AreSmall w
      → AreSmall (image_number triples moves w n) → ¬ Overflows triples moves w n
      → HasSmallImage triples moves (image_number triples moves w n)
      → ¬ Overflows triples moves w (n + 1)
  pub next_large : (w : List ℕ) (n k : ℕ) → IsMulticurve triples w → AreSmall w
      → AreSmall (image_number triples moves w n) → ¬ Overflows triples moves w n
      → OverflowsAt COORDINATE_LIMIT triples (image_number triples moves w n) moves k
      → Overflows triples moves w (n + 1)
  -- what is too large stays so
  pub later : (w : List ℕ) (n m : ℕ) → IsMulticurve triples w → AreSmall w → n ≤ m
      → Overflows triples moves w n → Overflows triples moves w m
