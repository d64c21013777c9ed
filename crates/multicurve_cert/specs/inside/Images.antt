-- The images of a vector under the powers of the word, listed in order as far as they have been
-- needed.
use Rattle.std.specs.Prelude.{◌≡◌, ◌<◌, ℕ, List, [], Bool, true, length, slice_index_or}
use Rattle.tri_atlas.specs.Arena.{Arena, triangulation}
use Rattle.tri_atlas.specs.Moves.{Move}
use Rattle.edge_coords.specs.Coordinates.{Coordinates}
use Rattle.multicurve_cert.specs.Candidates.{image_number, Overflows}
use Rattle.multicurve_cert.specs.LastTests.{AreAtBase}

abbrev pub coords_at : List Coordinates → ℕ → Coordinates
coords_at list k = slice_index_or list k (record { tri = 0; numbers = [] })

-- the vector that a list of images begins with
abbrev pub first_of : List Coordinates → List ℕ
first_of list = (coords_at list 0).numbers

-- c is the image under the n-th power, and no number reaches the limit on its way
pub record IsImageNumber (arena : Arena) (moves : List Move) (w : List ℕ) (n : ℕ) (c : Coordinates)
    : Type 0 where
  pub at_base : AreAtBase arena c
  pub numbers : c.numbers ≡ image_number (triangulation arena 0) moves w n
  pub small : ¬ Overflows (triangulation arena 0) moves w n

-- the first images of w, from w itself on
pub record AreImagesOf (arena : Arena) (moves : List Move) (w : List ℕ) (list : List Coordinates)
    : Type 0 where
  pub some : 0 < length list
  pub each : (n : ℕ) → n < length list → IsImageNumber arena moves w n (coords_at list n)

-- the first images of the vector that they begin with; where they have ended, the next overflows
pub record AreImages (arena : Arena) (moves : List Move) (ended : Bool) (list : List Coordinates)
    : Type 0 where
  pub images : AreImagesOf arena moves (first_of list) list
  pub end : ended ≡ true → Overflows (triangulation arena 0) moves (first_of list) (length list)
