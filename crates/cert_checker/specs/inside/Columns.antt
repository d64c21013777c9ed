-- The branches that images pass, and the rows of their matrix.
use Rattle.std.specs.Prelude.{◌≡◌, ◌<◌, ℕ, ℤ, List, [], length, map, slice_index, slice_index_or}
use Rattle.std.specs.Prelude.{Vec}
use Rattle.std.specs.Global.{Global}
use Rattle.free_groupoid.specs.Walks.{walk_of_letters}
use Rattle.train_track.specs.Passes.{Pass, ArePassesOf, IsFromSwitchToSwitch}
use Rattle.transition_matrix.specs.Matrices.{Square, entry}
use Rattle.cert_text.specs.Certificates.{rows_of}

-- the letters are a legal walk from a switch to a switch, from where the first one starts
abbrev pub IsPassedWalk : List (List ℤ) → List ℤ → List ℤ → Type 0
IsPassedWalk triples left_out image =
    IsFromSwitchToSwitch triples left_out (walk_of_letters triples image)

-- the numbers are those of the branches that the image passes
abbrev pub IsPassColumn : List (List ℤ) → List ℤ → List ℕ → Type 0
IsPassColumn branches image column =
    (passes : List Pass) × ArePassesOf branches passes image × (column ≡ map (λ p. p.branch) passes)

-- there are so many columns, one for each image
pub record ArePassColumns (branches images : List (List ℤ)) (n : ℕ) (columns : List (Vec ℕ Global))
    : Type 0 where
  pub as_many : length columns ≡ n
  pub passes : (j : ℕ) → j < length columns
      → IsPassColumn branches (slice_index_or images j []) (slice_index_or (rows_of columns) j [])

-- the matrix and the list have a row with this number, with the same entries
pub record IsRowOf (m : Square) (rows : List (List ℕ)) (i : ℕ) : Type 0 where
  pub within : i < m.size
  pub row : i < length rows
  pub one_entry_each : length (slice_index_or rows i []) ≡ m.size
  pub entries : (j : ℕ) → j < m.size → slice_index (slice_index_or rows i []) j ≡ entry m i j
