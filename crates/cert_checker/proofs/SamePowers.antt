-- Matrices of one size with the same entries have the same powers.
use Rattle.std.proofs.Common.{◌≡◌, ◌<◌, ◌*◌, ℕ, zero, suc, ◌∙◌, ap, arith, refl, subst}
use Rattle.transition_matrix.specs.MatrixLaws.{SumLaws}
use Rattle.transition_matrix.specs.Matrices.{Square, IsPositivePower, entry, power, sum_below}
use Rattle.cert_checker.specs.TrackRules.{IsExponent}

module _ (sums : SumLaws) (a b : Square) (size : a.size ≡ b.size)
    (same : (i j : ℕ) → i < a.size → j < a.size → entry a i j ≡ entry b i j) where
  same_power : (k i j : ℕ) → j < a.size → power a k i j ≡ power b k i j
  same_power zero i j below = refl
  same_power (suc k) i j below =
      sums.same a.size (λ (l : ℕ). power a k i l * entry a l j) (λ (l : ℕ). power b k i l * entry b l j)
      (λ l less. ap (λ (n : ℕ). n * entry a l j) (same_power k i l less)
      ∙ ap (λ (n : ℕ). power b k i l * n) (same l j less below))
      ∙ ap (λ (n : ℕ). sum_below n (λ (l : ℕ). power b k i l * entry b l j)) size

  same_positive : (k : ℕ) → IsPositivePower a k → IsPositivePower b k
  same_positive k positive i j row column =
      let below : j < a.size = omega (arith, size) in
      subst (λ (n : ℕ). 0 < n) (same_power k i j below) (positive i j (omega (arith, size)) below)

  pub same_exponent : (e : ℕ) → IsExponent a e → IsExponent b e
  same_exponent e (some, within, positive) = (some, within, same_positive e positive)
