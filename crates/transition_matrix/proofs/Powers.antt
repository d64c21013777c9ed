-- Powers of a matrix: the first, where positive entries of any stand, and those that are positive altogether.
use Rattle.std.proofs.Common.{◌≡◌, ◌≢◌, ◌<◌, ◌≤◌, ◌*◌, inl, inr, ℕ, zero, suc}
use Rattle.std.proofs.Common.{Bool, refl, sym, ◌∙◌, ap, subst, arith}
use Rattle.std.specs.Prelude.{if◌then◌else◌, nat_eq}
use Rattle.std.proofs.lemmas.Bool.{cases_eq, eq-eqb, ne_eqb}
use Rattle.transition_matrix.specs.Matrices.{Square, entry, sum_below, power, IsPositivePower}
use Rattle.transition_matrix.specs.MatrixLaws.{RespectsClasses}
use Rattle.transition_matrix.proofs.Sums.{sum_below-one, sum_below-part, positive_term, positive_product}
use Rattle.transition_matrix.proofs.Sums.{positive_left, positive_right}

-- ---- the first power

abbrev pub unit : ℕ → ℕ → ℕ
unit i j = if nat_eq i j then 1 else 0

pub unit_same : (i : ℕ) → unit i i ≡ 1
unit_same i = ap (λ (b : Bool). if b then 1 else 0) (eq-eqb i i refl)

pub unit_other : (i j : ℕ) → i ≢ j → unit i j ≡ 0
unit_other i j apart = ap (λ (b : Bool). if b then 1 else 0) (ne_eqb i j apart)

pub first_power : (m : Square) (i j : ℕ) → i < m.size → power m 1 i j ≡ entry m i j
first_power m i j within =
    let f : ℕ → ℕ = λ l. unit i l * entry m l j in
    let none : (l : ℕ) → l < m.size → l ≢ i → f l ≡ 0
    = λ l h apart. ap (λ (n : ℕ). n * entry m l j) (unit_other i l (λ e. apart (sym e))) ∙ omega arith in
    let one : f i ≡ entry m i j = ap (λ (n : ℕ). n * entry m i j) (unit_same i) ∙ omega arith in
    sum_below-one m.size i f within none ∙ one

-- ---- classes

-- going n times
abbrev times : (ℕ → ℕ) → ℕ → ℕ → ℕ
times goes zero c = c
times goes (suc n) c = times goes n (goes c)

equal_unit : (i j : ℕ) → 0 < unit i j → i ≡ j
equal_unit i j some = elim (cases_eq i j) [
  | inl e ↦ e
  | inr apart ↦ absurd (let none : unit i j
      ≡ 0 = unit_other i j apart in omega arith)
]

-- a positive entry of a power stands in the row's class that the column's class goes to
pub power_respects : (m : Square) (class goes : ℕ → ℕ) (k i j : ℕ) → RespectsClasses m class goes
    → i < m.size → j < m.size → 0 < power m k i j → class i ≡ times goes k (class j)
power_respects m class goes zero i j respects row column some = ap class (equal_unit i j some)
power_respects m class goes (suc k) i j respects row column some =
    let found = positive_term m.size (λ l. power m k i l * entry m l j) some in
    let l : ℕ = found.0 in
    let before = power_respects m class goes k i l respects row found.1 (positive_left _ _ found.2) in
    let step = respects.entries l j found.1 column (positive_right _ _ found.2) in
    before ∙ ap (λ (c : ℕ). times goes k c) step

pub no_positive_power : (m : Square) (class goes : ℕ → ℕ) (i j k : ℕ) → RespectsClasses m class goes
    → i < m.size → j < m.size → class i ≢ class j → 0 < k → ¬ IsPositivePower m k
no_positive_power m class goes i j k respects row other apart some positive =
    apart (power_respects m class goes k i j respects row other (positive i j row other)
    ∙ sym (power_respects m class goes k j j respects other other (positive j j other other)))

-- ---- positive powers

-- a column of a positive power isn't zero in the matrix: the last factor of a positive product is an entry of it
positive_column : (m : Square) (k j : ℕ) → j < m.size → IsPositivePower m (suc k)
    → (l : ℕ) × (l < m.size) × (0 < entry m l j)
positive_column m k j column positive =
    let found = positive_term m.size (λ l. power m k j l * entry m l j) (positive j j column column) in
    (found.0, found.1, positive_right _ _ found.2)

positive_next : (m : Square) (k : ℕ) → 0 < k → IsPositivePower m k → IsPositivePower m (suc k)
positive_next m zero some positive i j row column = absurd (omega arith)
positive_next m (suc k) some positive i j row column =
    let (l, low, entry_some) = positive_column m k j column positive in
    let f : ℕ → ℕ = λ r. power m (suc k) i r * entry m r j in
    let term : 0 < f l = positive_product (power m (suc k) i l) (entry m l j) (positive i l row low) entry_some in
    let part : f l ≤ sum_below m.size f = sum_below-part m.size l f low in
    omega (arith, term, part)

pub positive_later : (m : Square) (k l : ℕ) → 0 < k → k ≤ l → IsPositivePower m k → IsPositivePower m l
positive_later m k zero some later positive i j row column = absurd (omega arith)
positive_later m k (suc l) some later positive i j row column = elim (cases_eq k (suc l)) [
  | inl e ↦ let P : ℕ → Type 0 = λ n. IsPositivePower m n in subst P e positive i j row column
  | inr apart ↦
      let before : IsPositivePower m l = positive_later m k l some (omega arith) positive in
      positive_next m l (omega arith) before i j row column
]
