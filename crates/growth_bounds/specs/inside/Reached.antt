-- How far a search for a row that grows has come.
use Rattle.std.specs.Prelude.{◌≡◌, ◌<◌, ◌≤◌, ◌+◌, ◌^◌, ℕ, suc, List, length, slice_index, All}
use Rattle.transition_matrix.specs.Matrices.{Square}
use Rattle.transition_matrix.specs.Bounds.{times, column_sum}
use Rattle.growth_bounds.specs.Rule.{Grows}

-- the list is the row of ones times the j-th power, and its numbers are small
pub record IsRow (m : Square) (j : ℕ) (u : List ℕ) : Type 0 where
  pub size : length u ≡ m.size
  pub small : All (λ n. n < 2 ^ 63) u
  pub is : (i : ℕ) → i < m.size → slice_index u i ≡ column_sum m j i

-- the row j was reached, and none from the fourth on before it grows
pub record IsReached (m : Square) (j : ℕ) (u : List ℕ) : Type 0 where
  pub row : IsRow m j u
  pub none : (k : ℕ) → 4 ≤ k → k < j → ¬ Grows m k

-- the first row is positive, and the second is greater in every entry
abbrev pub IsGrowing : List ℕ → List ℕ → Type 0
IsGrowing u v = (i : ℕ) → i < length u → (0 < slice_index u i) × (slice_index u i < slice_index v i)

-- the two rows are the row of the number and the next one, and the row grows
pub record GrowsWith (m : Square) (j : ℕ) (u v : List ℕ) : Type 0 where
  pub row : IsRow m j u
  pub next : IsRow m (suc j) v
  pub growing : IsGrowing u v
  pub product : (i : ℕ) → i < m.size → times m (slice_index u) i ≡ slice_index v i

-- the two rows are those of the number that is chosen
pub record IsFound (m : Square) (IsChosen : ℕ → Type 0) (u v : List ℕ) : Type 0 where
  pub number : ℕ
  pub chosen : IsChosen number
  pub rows : GrowsWith m number u v

-- none of the numbers from 4 to 64, nor of the first k of 3, 2, 1, 0, grows
pub record NoneYet (m : Square) (k : ℕ) : Type 0 where
  pub from_four : (j : ℕ) → 4 ≤ j → j ≤ 64 → ¬ Grows m j
  pub below_four : (j : ℕ) → j < 4 → 4 ≤ j + k → ¬ Grows m j
