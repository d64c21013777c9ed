-- What a step of vectors needs to know of a move.
use Rattle.std.specs.Prelude.{◌≡◌, ◌<◌, ◌≤◌, ℕ, ℤ, pos, List, length, slice_index}
use Rattle.ideal_tri.specs.Labels.{edge_of}
use Rattle.ideal_tri.specs.Vectors.{weight}
use Rattle.tri_atlas.specs.Moves.{Move, flip, unflip, relabel}
use Rattle.ideal_tri.specs.Relabellings.{image_of}
use Rattle.tri_atlas.specs.MovedVectors.{greater_sum, vector_after}

-- the labels are of edges of w, and the number of e can be taken from the greater sum
pub record IsFlipOf (w : List ℕ) (e a b c d : ℤ) : Type 0 where
  pub e_in : edge_of e < length w
  pub a_in : edge_of a < length w
  pub b_in : edge_of b < length w
  pub c_in : edge_of c < length w
  pub d_in : edge_of d < length w
  pub enough : weight w e ≤ greater_sum w a b c d

-- the images are those of a bijection of the edges of w, and the vector after the relabelling has
-- the number of each edge at the edge of its image
pub record IsRelabellingOf (w : List ℕ) (images : List ℤ) : Type 0 where
  pub as_many : length images ≡ length w
  pub as_long : length (vector_after (relabel images) w) ≡ length w
  pub within : (k : ℕ) → k < length w → edge_of (image_of images (pos k)) < length w
  pub moved : (k : ℕ) → k < length w
      → weight (vector_after (relabel images) w) (image_of images (pos k)) ≡ slice_index w k
  pub onto : (e : ℕ) → e < length w → (k : ℕ) × (k < length w)
      × (edge_of (image_of images (pos k)) ≡ e)

-- the move can be made on w
abbrev pub IsStepOf : List ℕ → Move → Type 0
IsStepOf w (flip e a b c d) = IsFlipOf w e a b c d
IsStepOf w (unflip e a b c d) = IsFlipOf w e a b c d
IsStepOf w (relabel images) = IsRelabellingOf w images
