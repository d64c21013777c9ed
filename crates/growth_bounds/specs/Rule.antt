-- The two rules for bounds: the row of column sums of the first power of the matrix that stays
-- small, is positive, and grows in every entry; and the least and the greatest ratio of growth.
-- The one rule looks at the powers from the fourth to the 64th; the wider one looks after these at
-- the third, the second, the first, and the row of ones.
use Rattle.std.specs.Prelude.{◌≡◌, ◌<◌, ◌≤◌, ◌*◌, ◌^◌, ℕ, suc, length, slice_index}
use Rattle.transition_matrix.specs.Bounds.{column_sum}
use Rattle.transition_matrix.specs.Matrices.{Square}
use Rattle.growth_bounds.specs.declared.rule.GrowthBounds.{GrowthBounds}

-- entries of the rows stay below this
abbrev pub row_limit : ℕ
row_limit = 2 ^ 63

-- the row and the next one stay below the limit, the row is positive, and the next one is greater
-- in every entry
pub record Grows (m : Square) (j : ℕ) : Type 0 where
  pub positive : (i : ℕ) → i < m.size → 0 < column_sum m j i
  pub small : (i : ℕ) → i < m.size → column_sum m j i < row_limit
  pub next_small : (i : ℕ) → i < m.size → column_sum m (suc j) i < row_limit
  pub greater : (i : ℕ) → i < m.size → column_sum m j i < column_sum m (suc j) i

-- j is the first number from 4 to 64 at which the row grows
pub record IsFirstGrowth (m : Square) (j : ℕ) : Type 0 where
  pub from_four : 4 ≤ j
  pub to_sixty_four : j ≤ 64
  pub grows : Grows m j
  pub first : (k : ℕ) → 4 ≤ k → k < j → ¬ Grows m k

-- in the order 4, 5, .., 64, 3, 2, 1, 0 the number k comes before j
pub data ComesBefore (k j : ℕ) : Type 0 where
  rising : 4 ≤ k → k < j → ComesBefore k j
  turning : 4 ≤ k → k ≤ 64 → j < 4 → ComesBefore k j
  falling : k < 4 → j < k → ComesBefore k j

-- j is the first number in this order at which the row grows
pub record IsWideGrowth (m : Square) (j : ℕ) : Type 0 where
  pub to_sixty_four : j ≤ 64
  pub grows : Grows m j
  pub first : (k : ℕ) → ComesBefore k j → ¬ Grows m k

-- the pair is (v i, u i) of the least ratio v i / u i among those below n, at the first i of that
-- ratio
pub record IsLeastRatio (n : ℕ) (v u : ℕ → ℕ) (pair : ℕ × ℕ) : Type 0 where
  pub place : ℕ
  pub within : place < n
  pub above : pair.0 ≡ v place
  pub below : pair.1 ≡ u place
  pub least : (k : ℕ) → k < n → v place * u k ≤ v k * u place
  pub first : (k : ℕ) → k < place → v place * u k < v k * u place

-- the same pair, turned round
abbrev pub turned : ℕ × ℕ → ℕ × ℕ
turned pair = (pair.1, pair.0)

-- the row of the number that is chosen, and the least and the greatest ratio of growth there
pub record HasRatios (m : Square) (IsChosen : ℕ → Type 0) (bounds : GrowthBounds) : Type 0 where
  pub number : ℕ
  pub first : IsChosen number
  pub size : length bounds.u.items ≡ m.size
  pub row_is : (i : ℕ) → i < m.size → slice_index bounds.u.items i ≡ column_sum m number i
  pub low : IsLeastRatio m.size (column_sum m (suc number)) (column_sum m number) bounds.low
  pub high : IsLeastRatio m.size (column_sum m number) (column_sum m (suc number)) (turned
      bounds.high)

-- the bounds are those where growth is first met from the fourth power on
abbrev pub IsRuledBy : Square → GrowthBounds → Type 0
IsRuledBy m = HasRatios m (IsFirstGrowth m)

-- the bounds are those where growth is first met in the wider order
abbrev pub IsWidelyRuledBy : Square → GrowthBounds → Type 0
IsWidelyRuledBy m = HasRatios m (IsWideGrowth m)
