-- Bounds of the growth of a matrix, by a row that it stretches in every entry, and columns under
-- its powers.
use Rattle.std.specs.Prelude.{◌≡◌, ◌<◌, ◌≤◌, ◌*◌, ◌^◌, ℕ, zero, suc, List, length, slice_index}
use Rattle.transition_matrix.specs.Matrices.{Square, entry, power, sum_below}

-- the row times the matrix
abbrev pub times : Square → (ℕ → ℕ) → ℕ → ℕ
times m u j = sum_below m.size (λ i. u i * entry m i j)

-- the row of ones times the j-th power of the matrix: the column sums of the power
abbrev pub column_sum : Square → ℕ → ℕ → ℕ
column_sum m j i = sum_below m.size (λ l. power m j l i)

-- the matrix times the column
abbrev pub applied : Square → (ℕ → ℕ) → ℕ → ℕ
applied m y i = sum_below m.size (λ j. entry m i j * y j)

-- the matrix times the column, n times
abbrev pub iterated : Square → ℕ → (ℕ → ℕ) → ℕ → ℕ
iterated m zero y = y
iterated m (suc n) y = applied m (iterated m n y)

-- the row times the column
abbrev pub paired : Square → (ℕ → ℕ) → (ℕ → ℕ) → ℕ
paired m u y = sum_below m.size (λ i. u i * y i)

-- in every entry the row grows by at least low.0 / low.1, which is above 1, and at most high.0 /
-- high.1
pub record IsBounds (m : Square) (u : List ℕ) (low high : ℕ × ℕ) : Type 0 where
  pub one_per_row : length u ≡ m.size
  pub positive : (i : ℕ) → i < m.size → 0 < slice_index u i
  pub grows : low.1 < low.0
  pub at_least : (i : ℕ) → i < m.size → low.0 * slice_index u i ≤ low.1 * times m (slice_index u) i
  pub at_most : (i : ℕ) → i < m.size → high.1 * times m (slice_index u) i ≤ high.0 * slice_index u i
