-- Sums f 0 + .. + f (n - 1).
use Rattle.std.proofs.Common.{◌≡◌, ◌≢◌, ◌<◌, ◌≤◌, ◌+◌, ◌*◌, ◌⊎◌, inl, inr, ℕ, zero, suc, refl, sym, ◌∙◌, ap, subst}
use Rattle.std.proofs.Common.{arith}
use Rattle.std.proofs.lemmas.Bool.{cases_lt}
use Rattle.transition_matrix.specs.Matrices.{sum_below}

-- ---- equal and zero terms

pub sum_below-same : (n : ℕ) (f g : ℕ → ℕ) → ((k : ℕ) → k < n → f k ≡ g k) → sum_below n f ≡ sum_below n g
sum_below-same zero f g same = refl
sum_below-same (suc n) f g same =
    let before : sum_below n f ≡ sum_below n g = sum_below-same n f g (λ k l. same k (omega arith)) in
    let last : f n ≡ g n = same n (omega arith) in
    omega arith

pub sum_below-zero : (n : ℕ) (f : ℕ → ℕ) → ((k : ℕ) → k < n → f k ≡ 0) → sum_below n f ≡ 0
sum_below-zero zero f none = refl
sum_below-zero (suc n) f none =
    let before : sum_below n f ≡ 0 = sum_below-zero n f (λ k l. none k (omega arith)) in
    let last : f n ≡ 0 = none n (omega arith) in
    omega arith

-- ---- one term

le_to_same : (i n : ℕ) → i < suc n → n ≤ i → i ≡ n
le_to_same i n within over = omega arith

-- only one term counts
pub sum_below-one : (n i : ℕ) (f : ℕ → ℕ) → i < n → ((k : ℕ) → k < n → k ≢ i → f k ≡ 0) → sum_below n f ≡ f i
sum_below-one zero i f within none = absurd (omega arith)
sum_below-one (suc n) i f within none =
    elim (cases_lt i n) [
      | inl before ↦
          let front : sum_below n f ≡ f i = sum_below-one n i f before (λ k l. none k (omega arith)) in
          let last : f n ≡ 0 = none n (omega arith) (λ e. omega arith) in
          omega arith
      | inr over ↦
          let here : i ≡ n = le_to_same i n within over in
          let front : sum_below n f ≡ 0 = sum_below-zero n f (λ k l. none k (omega arith) (λ e. omega arith)) in
          let last : f n ≡ f i = ap f (sym here) in
          omega arith
    ]

-- ---- positive sums

pub sum_below-part : (n i : ℕ) (f : ℕ → ℕ) → i < n → f i ≤ sum_below n f
sum_below-part zero i f within = absurd (omega arith)
sum_below-part (suc n) i f within =
    elim (cases_lt i n) [
      | inl before ↦ let front : f i ≤ sum_below n f = sum_below-part n i f before in omega arith
      | inr over ↦ let last : f n ≡ f i = ap f (sym (le_to_same i n within over)) in omega arith
    ]

-- a positive sum has a positive term
pub positive_term : (n : ℕ) (f : ℕ → ℕ) → 0 < sum_below n f → (i : ℕ) × (i < n) × (0 < f i)
positive_term zero f some = absurd (omega arith)
positive_term (suc n) f some =
    elim (cases_lt 0 (f n)) [
      | inl here ↦ (n, omega arith, here)
      | inr none ↦ let front = positive_term n f (omega arith) in (front.0, omega (arith, front.1), front.2)
    ]

-- ---- products

pub positive_product : (a b : ℕ) → 0 < a → 0 < b → 0 < a * b
positive_product (suc a) (suc b) left right = omega arith
positive_product zero b left right = absurd (omega arith)
positive_product (suc a) zero left right = absurd (omega arith)

pub positive_left : (a b : ℕ) → 0 < a * b → 0 < a
positive_left zero b some = absurd (omega arith)
positive_left (suc a) b some = omega arith

pub positive_right : (a b : ℕ) → 0 < a * b → 0 < b
positive_right a zero some = absurd (omega arith)
positive_right a (suc b) some = omega arith
