-- Square matrices of whole numbers, their powers, and growth bounds (Perron and Frobenius).
use Rattle.std.specs.Prelude.{◌≡◌, ◌<◌, ◌≤◌, ◌+◌, ◌*◌, ℕ, zero, suc, List, [], length, slice_index}
use Rattle.std.specs.Prelude.{slice_index_or, count_by, nat_eq, if◌then◌else◌}

-- a square matrix: how many rows and columns it has, and its entries, row after row
pub record Square : Type 0 where
  pub size : ℕ
  pub entries : List ℕ

-- the entry in row i and column j
abbrev pub entry : Square → ℕ → ℕ → ℕ
entry m i j = slice_index m.entries (i * m.size + j)

-- the matrix counts, in row i and column j, how often i stands in column j of the lists
pub record IsCountOf (columns : List (List ℕ)) (m : Square) : Type 0 where
  pub size : m.size ≡ length columns
  pub whole : length m.entries ≡ m.size * m.size
  pub counts : (i j : ℕ) → i < m.size → j < m.size
      → entry m i j ≡ count_by (nat_eq i) (slice_index_or columns j [])

-- f 0 + .. + f (n - 1)
abbrev pub sum_below : ℕ → (ℕ → ℕ) → ℕ
sum_below zero f = 0
sum_below (suc n) f = sum_below n f + f n

-- the entries of the k-th power; the power 0 is the unit matrix
abbrev pub power : Square → ℕ → ℕ → ℕ → ℕ
power m zero i j = if nat_eq i j then 1 else 0
power m (suc k) i j = sum_below m.size (λ l. power m k i l * entry m l j)

-- all entries of the k-th power are positive
abbrev pub IsPositivePower : Square → ℕ → Type 0
IsPositivePower m k = (i j : ℕ) → i < m.size → j < m.size → 0 < power m k i j

-- k is the least positive number whose power has all entries positive. A matrix that has one is
-- primitive
pub record IsLeastExponent (m : Square) (k : ℕ) : Type 0 where
  pub some : 0 < k
  pub positive : IsPositivePower m k
  pub least : (l : ℕ) → 0 < l → l < k → ¬ IsPositivePower m l
