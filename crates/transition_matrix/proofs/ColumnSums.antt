-- The column sums of the powers of a matrix: each row of them times the matrix is the next, and where one of them is
-- positive they never fall, since then no column of the matrix is zero.
use Rattle.std.proofs.Common.{◌≡◌, ◌≢◌, ◌<◌, ◌≤◌, ◌+◌, ◌*◌, ◌⊎◌, inl, inr, ℕ, zero, suc, refl, sym, ◌∙◌, ap, subst}
use Rattle.std.proofs.Common.{arith}
use native.Mathlib.Nat.{mul-le-mul_right}
use Rattle.std.proofs.lemmas.Bool.{cases_eq}
use Rattle.transition_matrix.specs.Matrices.{Square, entry, power, sum_below}
use Rattle.transition_matrix.specs.Bounds.{times, column_sum}
use Rattle.transition_matrix.proofs.Powers.{unit, unit_same, unit_other, first_power}
use Rattle.transition_matrix.proofs.Sums.{sum_below-same, sum_below-one, sum_below-part, positive_term, positive_right}
use Rattle.transition_matrix.proofs.SumLaws.{sum_below-exchange, sum_below-scale_right, sum_below-mono}

-- ---- beginnings of a sum

pub sum_below-beginning : (k n : ℕ) (f : ℕ → ℕ) → k ≤ n → sum_below k f ≤ sum_below n f
sum_below-beginning k zero f within =
    let e : k ≡ 0 = omega arith in
    let P : ℕ → Type 0 = λ l. sum_below l f ≤ sum_below 0 f in
    subst P (sym e) (omega arith)
sum_below-beginning k (suc n) f within = elim (cases_eq k (suc n)) [
  | inl e ↦ let P : ℕ → Type 0 = λ l. sum_below l f ≤ sum_below (suc n) f in subst P (sym e) (omega arith)
  | inr apart ↦ let before : sum_below k f ≤ sum_below n f = sum_below-beginning k n f (omega arith) in omega arith
]

-- ---- one row after another

pub start_sums : (m : Square) (i : ℕ) → i < m.size → column_sum m 0 i ≡ 1
start_sums m i within =
    sum_below-one m.size i (λ l. unit l i) within (λ l low apart. unit_other l i apart) ∙ unit_same i

pub next_sums : (m : Square) (j i : ℕ) → column_sum m (suc j) i ≡ times m (column_sum m j) i
next_sums m j i =
    sum_below-exchange m.size m.size (λ l r. power m j l r * entry m r i)
    ∙ sum_below-same m.size _ (λ r. column_sum m j r * entry m r i)
    (λ r low. sum_below-scale_right m.size (entry m r i) (λ l. power m j l r))

-- ---- rising

-- a column with a positive sum in a later power isn't zero in the matrix
nonzero_column : (m : Square) (k i : ℕ) → i < m.size → 0 < column_sum m (suc k) i → 0 < column_sum m 1 i
nonzero_column m k i within some =
    let sum : 0 < times m (column_sum m k) i = let e = next_sums m k i in omega arith in
    let found = positive_term m.size (λ l. column_sum m k l * entry m l i) sum in
    let l : ℕ = found.0 in
    let one : power m 1 l i ≡ entry m l i = first_power m l i found.1 in
    let positive : 0 < entry m l i = positive_right (column_sum m k l) (entry m l i) found.2 in
    let part : power m 1 l i ≤ column_sum m 1 i = sum_below-part m.size l (λ r. power m 1 r i) found.1 in
    omega arith

times-mono : (m : Square) (u v : ℕ → ℕ) (i : ℕ) → ((l : ℕ) → l < m.size → u l ≤ v l) → times m u i ≤ times m v i
times-mono m u v i below =
    sum_below-mono m.size (λ l. u l * entry m l i) (λ l. v l * entry m l i)
    (λ l low. mul-le-mul_right (entry m l i) (below l low))

rises : (m : Square) (j i : ℕ) → ((r : ℕ) → r < m.size → 0 < column_sum m 1 r) → i < m.size
    → column_sum m j i ≤ column_sum m (suc j) i
rises m zero i positive within = let one = start_sums m i within in let some = positive i within in omega arith
rises m (suc j) i positive within =
    let below = times-mono m (column_sum m j) (column_sum m (suc j)) i (λ l low. rises m j l positive low) in
    omega (arith, below, next_sums m j i, next_sums m (suc j) i)

rising_from : (m : Square) (j l i : ℕ) → ((r : ℕ) → r < m.size → 0 < column_sum m 1 r) → j ≤ l → i < m.size
    → column_sum m j i ≤ column_sum m l i
rising_from m j zero i positive within low =
    let e : j ≡ 0 = omega arith in
    let P : ℕ → Type 0 = λ k. column_sum m k i ≤ column_sum m 0 i in
    subst P (sym e) (omega arith)
rising_from m j (suc l) i positive within low = elim (cases_eq j (suc l)) [
  | inl e ↦ let P : ℕ → Type 0 = λ k. column_sum m k i ≤ column_sum m (suc l) i in subst P (sym e) (omega arith)
  | inr apart ↦
      let before = rising_from m j l i positive (omega arith) low in
      let last = rises m l i positive low in
      omega (arith, before, last)
]

pub rising : (m : Square) (k j l i : ℕ) → ((r : ℕ) → r < m.size → 0 < column_sum m (suc k) r) → j ≤ l → i < m.size
    → column_sum m j i ≤ column_sum m l i
rising m k j l i positive = rising_from m j l i (λ r low. nonzero_column m k r low (positive r low))
