-- The search for the least exponent, over truth values in place of numbers.
--
-- An entry of a power is a sum of products of numbers that aren't negative, so it is positive exactly where one of the
-- products is, and that is where both of its factors are. So "is positive" turns the product of matrices into the
-- product of tables of truth values, and the tables of the powers can be multiplied on without the numbers.
use Rattle.std.proofs.Common.{◌≡◌, ◌<◌, ◌≤◌, ◌+◌, ◌*◌, ◌⊎◌, inl, inr, ℕ, zero, suc, List, nat_lt, true, false, Bool}
use Rattle.std.proofs.Common.{refl, sym, ◌∙◌, ap, subst, arith, add-one, mul-zero, zero-mul}
use Rattle.std.specs.Prelude.{◌||◌, ◌&&◌}
use Rattle.std.proofs.lemmas.Bool.{cases_eq, lt-ltb, le-ltb, ltb-true}
use Rattle.transition_matrix.specs.Matrices.{Square, entry, sum_below, power, IsPositivePower, IsLeastExponent}
use Rattle.transition_matrix.specs.inside.Bits.{bit, any_below}
use Rattle.transition_matrix.proofs.Powers.{first_power}
use Rattle.transition_matrix.proofs.Sums.{positive_product}

-- ---- signs of sums of products

pub any_below-same : (n : ℕ) (p q : ℕ → Bool) → ((l : ℕ) → l < n → p l ≡ q l) → any_below n p ≡ any_below n q
any_below-same zero p q same = refl
any_below-same (suc n) p q same =
    ap (λ (b : Bool). b || p n) (any_below-same n p q (λ l low. same l (omega arith)))
    ∙ ap (λ (b : Bool). any_below n q || b) (same n (omega arith))

positive_test : (a : ℕ) → nat_lt 0 (suc a) ≡ true
positive_test a = lt-ltb 0 (suc a) (omega arith)

sign_product : (a b : ℕ) → (nat_lt 0 a && nat_lt 0 b) ≡ nat_lt 0 (a * b)
sign_product zero b = ap (nat_lt 0) (sym (zero-mul b))
sign_product (suc a) zero =
    ap (λ (t : Bool). t && nat_lt 0 0) (positive_test a) ∙ ap (nat_lt 0) (sym (mul-zero (suc a)))
sign_product (suc a) (suc b) =
    ap (λ (t : Bool). t && nat_lt 0 (suc b)) (positive_test a) ∙ positive_test b
    ∙ sym (lt-ltb 0 (suc a * suc b) (positive_product (suc a) (suc b) (omega arith) (omega arith)))

sign_sum : (a b : ℕ) → (nat_lt 0 a || nat_lt 0 b) ≡ nat_lt 0 (a + b)
sign_sum zero b = ap (nat_lt 0) (let e : b ≡ 0 + b = omega arith in e)
sign_sum (suc a) b =
    ap (λ (t : Bool). t || nat_lt 0 b) (positive_test a) ∙ sym (lt-ltb 0 (suc a + b) (omega arith))

pub sign_of_product : (n : ℕ) (f g : ℕ → ℕ)
    → any_below n (λ l. nat_lt 0 (f l) && nat_lt 0 (g l)) ≡ nat_lt 0 (sum_below n (λ l. f l * g l))
sign_of_product zero f g = refl
sign_of_product (suc n) f g =
    ap (λ (b : Bool). b || (nat_lt 0 (f n) && nat_lt 0 (g n))) (sign_of_product n f g)
    ∙ ap (λ (b : Bool). nat_lt 0 (sum_below n (λ l. f l * g l)) || b) (sign_product (f n) (g n))
    ∙ sign_sum (sum_below n (λ l. f l * g l)) (f n * g n)

-- ---- the search

-- the table has the signs of a power
pub record HasSigns (m : Square) (width k : ℕ) (words : List ℕ) : Type 0 where
  pub signs : (i j : ℕ) → i < m.size → j < m.size → bit width words i j ≡ nat_lt 0 (power m k i j)

pub first_signs : (m : Square) (width : ℕ) (words : List ℕ)
    → ((i j : ℕ) → i < m.size → j < m.size → bit width words i j ≡ nat_lt 0 (entry m i j)) → HasSigns m width 1 words
first_signs m width words signs = record {
  signs = λ i j row column. signs i j row column ∙ ap (nat_lt 0) (sym (first_power m i j row));
}

pub next_signs : (m : Square) (width k : ℕ) (matrix words new : List ℕ)
    → ((i j : ℕ) → i < m.size → j < m.size → bit width matrix i j ≡ nat_lt 0 (entry m i j)) → HasSigns m width k words
    → ((i j : ℕ) → i < m.size → j < m.size
    → bit width new i j ≡ any_below m.size (λ l. bit width words i l && bit width matrix l j))
    → HasSigns m width (suc k) new
next_signs m width k matrix words new signs before product = record {
  signs = λ i j row column.
      product i j row column
      ∙ any_below-same m.size _ (λ l. nat_lt 0 (power m k i l) && nat_lt 0 (entry m l j))
      (λ l low. ap (λ (b : Bool). b && bit width matrix l j) (before.signs i l row low)
      ∙ ap (λ (b : Bool). nat_lt 0 (power m k i l) && b) (signs l j low column))
      ∙ sign_of_product m.size (λ l. power m k i l) (λ l. entry m l j);
}

pub positive_by_signs : (m : Square) (width k : ℕ) (words : List ℕ) → HasSigns m width k words
    → ((i j : ℕ) → i < m.size → j < m.size → bit width words i j ≡ true) → IsPositivePower m k
positive_by_signs m width k words has full i j row column =
    ltb-true 0 (power m k i j) (sym (has.signs i j row column) ∙ full i j row column)

pub signs_by_positive : (m : Square) (width k : ℕ) (words : List ℕ) → HasSigns m width k words → IsPositivePower m k
    → (i j : ℕ) → i < m.size → j < m.size → bit width words i j ≡ true
signs_by_positive m width k words has positive i j row column =
    has.signs i j row column ∙ lt-ltb 0 (power m k i j) (positive i j row column)

-- no power before k is positive
pub record NoneBefore (m : Square) (k : ℕ) : Type 0 where
  pub none : (l : ℕ) → 0 < l → l < k → ¬ IsPositivePower m l

pub none_before_next : (m : Square) (k : ℕ) → NoneBefore m k → ¬ IsPositivePower m k → NoneBefore m (suc k)
none_before_next m k before none = record {
  none = λ l some low. elim (cases_eq l k) [
    | inl e ↦ let P : ℕ → Type 0 = λ n. ¬ IsPositivePower m n in subst P (sym e) none
    | inr apart ↦ before.none l some (omega arith)
  ];
}

-- ---- from one power to the next, as the program counts

pub next_reached : (m : Square) (width k : ℕ) (matrix words new : List ℕ)
    → ((i j : ℕ) → i < m.size → j < m.size → bit width matrix i j ≡ nat_lt 0 (entry m i j))
    → HasSigns m width (k + 1) words
    → ((i j : ℕ) → i < m.size → j < m.size
    → bit width new i j ≡ any_below m.size (λ l. bit width words i l && bit width matrix l j))
    → HasSigns m width (k + 1 + 1) new
next_reached m width k matrix words new signs before product =
    let P : ℕ → Type 0 = λ e. HasSigns m width e new in
    subst P (sym (add-one (k + 1))) (next_signs m width (k + 1) matrix words new signs before product)

pub none_reached : (m : Square) (width k : ℕ) (words : List ℕ) → HasSigns m width (k + 1) words → NoneBefore m (k + 1)
    → ¬ ((i j : ℕ) → i < m.size → j < m.size → bit width words i j ≡ true) → NoneBefore m (k + 1 + 1)
none_reached m width k words has before missing =
    let P : ℕ → Type 0 = λ e. NoneBefore m e in
    subst P (sym (add-one (k + 1)))
    (none_before_next m (k + 1) before (λ positive. missing (signs_by_positive m width (k + 1) words has positive)))

pub least_reached : (m : Square) (width k : ℕ) (words : List ℕ) → HasSigns m width (k + 1) words → NoneBefore m (k + 1)
    → ((i j : ℕ) → i < m.size → j < m.size → bit width words i j ≡ true) → IsLeastExponent m (k + 1)
least_reached m width k words has before full = record {
  some = omega arith;
  positive = positive_by_signs m width (k + 1) words has full;
  least = before.none;
}

pub none_at_first : (m : Square) → NoneBefore m 1
none_at_first m = record { none = λ l some low. absurd (omega arith) }
