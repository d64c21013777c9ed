-- Sums of sums: they may be exchanged, multiplied by a number, and compared term by term.
use Rattle.std.proofs.Common.{◌≡◌, ◌<◌, ◌≤◌, ◌+◌, ◌*◌, ℕ, zero, suc, refl, sym, ◌∙◌, ap, subst, arith, mul-zero}
use Rattle.std.proofs.Common.{zero-mul}
use native.Mathlib.Nat.{add-mul, mul-add}
use Rattle.transition_matrix.specs.Matrices.{sum_below}

pub sum_below-add : (n : ℕ) (f g : ℕ → ℕ) → sum_below n (λ k. f k + g k) ≡ sum_below n f + sum_below n g
sum_below-add zero f g = refl
sum_below-add (suc n) f g = let before = sum_below-add n f g in omega (arith, before)

pub sum_below-scale : (n c : ℕ) (f : ℕ → ℕ) → sum_below n (λ k. c * f k) ≡ c * sum_below n f
sum_below-scale zero c f = sym (mul-zero c)
sum_below-scale (suc n) c f =
    ap (λ (s : ℕ). s + c * f n) (sum_below-scale n c f) ∙ sym (mul-add c (sum_below n f) (f n))

pub sum_below-scale_right : (n c : ℕ) (f : ℕ → ℕ) → sum_below n (λ k. f k * c) ≡ sum_below n f * c
sum_below-scale_right zero c f = sym (zero-mul c)
sum_below-scale_right (suc n) c f =
    ap (λ (s : ℕ). s + f n * c) (sum_below-scale_right n c f) ∙ sym (add-mul (sum_below n f) (f n) c)

zeros : (n : ℕ) → sum_below n (λ k. 0) ≡ 0
zeros zero = refl
zeros (suc n) = let before = zeros n in omega (arith, before)

pub sum_below-exchange : (n m : ℕ) (f : ℕ → ℕ → ℕ)
    → sum_below n (λ i. sum_below m (λ j. f i j)) ≡ sum_below m (λ j. sum_below n (λ i. f i j))
sum_below-exchange zero m f = sym (zeros m)
sum_below-exchange (suc n) m f =
    ap (λ (s : ℕ). s + sum_below m (λ j. f n j)) (sum_below-exchange n m f)
    ∙ sym (sum_below-add m (λ j. sum_below n (λ i. f i j)) (λ j. f n j))

pub sum_below-mono : (n : ℕ) (f g : ℕ → ℕ) → ((k : ℕ) → k < n → f k ≤ g k) → sum_below n f ≤ sum_below n g
sum_below-mono zero f g below = omega arith
sum_below-mono (suc n) f g below =
    let before : sum_below n f ≤ sum_below n g = sum_below-mono n f g (λ k low. below k (omega arith)) in
    let last : f n ≤ g n = below n (omega arith) in
    omega arith
