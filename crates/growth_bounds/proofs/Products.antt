-- Products of whole numbers, compared.
use Rattle.std.proofs.Common.{◌≡◌, ◌<◌, ◌≤◌, ◌*◌, inl, inr, ℕ, suc, sym, ◌∙◌, ap, arith}
use native.Mathlib.Nat.{suc-mul, mul_assoc, mul_comm, mul-le-mul_left, mul-le-mul_right}
use Rattle.std.proofs.lemmas.Bool.{cases_lt}

pub mul-lt-mul_right : (a b c : ℕ) → a < b → 0 < c → a * c < b * c
mul-lt-mul_right a b c less some =
    let rows : suc a * c ≤ b * c = mul-le-mul_right c less in
    omega (arith, suc-mul a c)

pub mul-lt-mul : (a b h k : ℕ) → a < h → b < k → a * b < h * k
mul-lt-mul a b h k first second =
    let rows : suc a * k ≤ h * k = mul-le-mul_right k first in
    let columns : a * b ≤ a * k = mul-le-mul_left a (let h : b ≤ k = omega arith in h) in
    omega (arith, suc-mul a k)

-- what is smaller times a number comes from what is smaller
pub cancel_lt : (a b c : ℕ) → a * c < b * c → a < b
cancel_lt a b c less = elim (cases_lt a b) [
  | inl h ↦ h
  | inr over ↦ absurd (let h : b * c ≤ a * c = mul-le-mul_right c over in omega arith)
]

pub swap_last : (a b c : ℕ) → a * b * c ≡ a * c * b
swap_last a b c = mul_assoc a b c ∙ ap (λ (n : ℕ). a * n) (mul_comm b c) ∙ sym (mul_assoc a c b)

-- ---- ratios a / b, c / d, e / f

-- a / b is below c / d, which is at most e / f
pub ratio_lt-le : (a b c d e f : ℕ) → 0 < f → a * d < c * b → c * f ≤ e * d → a * f < e * b
ratio_lt-le a b c d e f some less most =
    let one : a * d * f < c * b * f = mul-lt-mul_right (a * d) (c * b) f less some in
    let two : c * f * b ≤ e * d * b = mul-le-mul_right b most in
    cancel_lt (a * f) (e * b) d
    (omega (arith, one, two, swap_last a d f, swap_last c b f, swap_last e d b))
