-- What holds of matrices and their powers.
use Rattle.std.specs.Prelude.{◌≡◌, ◌≢◌, ◌<◌, ◌≤◌, ◌*◌, ◌^◌, ℕ, suc, List, slice_index}
use Rattle.transition_matrix.specs.Bounds.{times, column_sum, paired, iterated, IsBounds}
use Rattle.transition_matrix.specs.Matrices.{Square, entry, power, sum_below, IsPositivePower}

-- indices lie in classes, and a column has entries only in rows of the class that its own class
-- goes to
pub record RespectsClasses (m : Square) (class goes : ℕ → ℕ) : Type 0 where
  pub entries : (i j : ℕ) → i < m.size → j < m.size → 0 < entry m i j → class i ≡ goes (class j)

pub record MatrixLaws : Type 0 where
  -- the first power is the matrix
  pub first : (m : Square) (i j : ℕ) → i < m.size → power m 1 i j ≡ entry m i j
  -- a matrix that respects classes has no positive power, where there are two classes
  pub classes : (m : Square) (class goes : ℕ → ℕ) (i j k : ℕ) → RespectsClasses m class goes
      → i < m.size → j < m.size → class i ≢ class j → 0 < k → ¬ IsPositivePower m k
  -- once a power is positive, so are all later ones
  pub more : (m : Square) (k l : ℕ) → 0 < k → k ≤ l → IsPositivePower m k → IsPositivePower m l

-- sums of terms
pub record SumLaws : Type 0 where
  pub same : (n : ℕ) (f g : ℕ → ℕ) → ((k : ℕ) → k < n → f k ≡ g k) → sum_below n f ≡ sum_below n g
  pub beginning : (k n : ℕ) (f : ℕ → ℕ) → k ≤ n → sum_below k f ≤ sum_below n f

-- the column sums of the powers
pub record ColumnSumLaws : Type 0 where
  pub start : (m : Square) (i : ℕ) → i < m.size → column_sum m 0 i ≡ 1
  pub next : (m : Square) (j i : ℕ) → column_sum m (suc j) i ≡ times m (column_sum m j) i
  -- where those of one power are positive, they never fall
  pub rising : (m : Square) (k j l i : ℕ) → ((r : ℕ) → r < m.size → 0 < column_sum m (suc k) r)
      → j ≤ l → i < m.size
      → column_sum m j i ≤ column_sum m l i

-- a row's bounds bound every column under the powers of the matrix (Perron and Frobenius)
pub record GrowthLaws : Type 0 where
  pub at_least : (m : Square) (u : List ℕ) (low high : ℕ × ℕ) (n : ℕ) (y : ℕ → ℕ)
      → IsBounds m u low high
      → low.0 ^ n * paired m (slice_index u) y ≤ low.1 ^ n * paired m (slice_index u) (iterated m n
      y)
  pub at_most : (m : Square) (u : List ℕ) (low high : ℕ × ℕ) (n : ℕ) (y : ℕ → ℕ)
      → IsBounds m u low high
      → high.1 ^ n * paired m (slice_index u) (iterated m n y) ≤ high.0 ^ n * paired m (slice_index
      u) y
