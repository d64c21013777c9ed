-- A row that a matrix stretches by at least p / q and at most p' / q' bounds every column under the powers.
--
-- Pairing is associative: (u M) . y = u . (M y), by exchanging the two sums. Where p u_i <= q (u M)_i for each i, the
-- same holds after multiplying by y_i and adding: p (u . y) <= q (u . M y). The n-th power follows by induction on n,
-- one factor at a time; the other bound is the same with the sides exchanged.
use Rattle.std.proofs.Common.{◌≡◌, ◌<◌, ◌≤◌, ◌+◌, ◌*◌, ◌^◌, ℕ, zero, suc, List, slice_index, refl, sym, ◌∙◌, ap, subst}
use Rattle.std.proofs.Common.{arith}
use native.Mathlib.Nat.{mul_assoc, mul_comm, mul-le-mul_left, mul-le-mul_right, le_trans, le_of_eq, pow-suc, pow-zero}
use Rattle.transition_matrix.specs.Matrices.{Square, entry, sum_below}
use Rattle.transition_matrix.specs.Bounds.{times, applied, iterated, paired, IsBounds}
use Rattle.transition_matrix.proofs.Sums.{sum_below-same}
use Rattle.transition_matrix.proofs.SumLaws.{sum_below-scale, sum_below-scale_right, sum_below-exchange, sum_below-mono}

-- ---- pairing

-- (u M) . y = u . (M y)
pub paired-times : (m : Square) (u y : ℕ → ℕ) → paired m (times m u) y ≡ paired m u (applied m y)
paired-times m u y =
    let n : ℕ = m.size in
    sum_below-same n _ (λ j. sum_below n (λ i. u i * entry m i j * y j))
    (λ j low. sym (sum_below-scale_right n (y j) (λ i. u i * entry m i j)))
    ∙ sum_below-exchange n n (λ j i. u i * entry m i j * y j)
    ∙ sum_below-same n _ (λ i. u i * applied m y i)
    (λ i low. sum_below-same n _ (λ j. u i * (entry m i j * y j)) (λ j l. mul_assoc (u i) (entry m i j) (y j))
    ∙ sum_below-scale n (u i) (λ j. entry m i j * y j))

-- entry by entry, then added up
pub paired-mono : (m : Square) (a b : ℕ) (u v y : ℕ → ℕ) → ((i : ℕ) → i < m.size → a * u i ≤ b * v i)
    → a * paired m u y ≤ b * paired m v y
paired-mono m a b u v y below =
    let n : ℕ = m.size in
    let left : a * paired m u y ≡ sum_below n (λ i. a * u i * y i) =
    sym (sum_below-scale n a (λ i. u i * y i)) ∙ sum_below-same n _ _ (λ i low. sym (mul_assoc a (u i) (y i))) in
    let right : b * paired m v y ≡ sum_below n (λ i. b * v i * y i) =
    sym (sum_below-scale n b (λ i. v i * y i)) ∙ sum_below-same n _ _ (λ i low. sym (mul_assoc b (v i) (y i))) in
    let between = sum_below-mono n (λ i. a * u i * y i) (λ i. b * v i * y i) (λ i low. mul-le-mul_right (y i) (below i
    low)) in
    omega (arith, left, right, between)

-- ---- one step

step_least : (m : Square) (u : ℕ → ℕ) (p q : ℕ) (y : ℕ → ℕ) → ((i : ℕ) → i < m.size → p * u i ≤ q * times m u i)
    → p * paired m u y ≤ q * paired m u (applied m y)
step_least m u p q y below =
    let P : ℕ → Type 0 = λ s. p * paired m u y ≤ q * s in
    subst P (paired-times m u y) (paired-mono m p q u (times m u) y below)

step_most : (m : Square) (u : ℕ → ℕ) (p q : ℕ) (y : ℕ → ℕ) → ((i : ℕ) → i < m.size → q * times m u i ≤ p * u i)
    → q * paired m u (applied m y) ≤ p * paired m u y
step_most m u p q y above =
    let P : ℕ → Type 0 = λ s. q * s ≤ p * paired m u y in
    subst P (paired-times m u y) (paired-mono m q p (times m u) u y above)

-- ---- all steps

-- two bounds, one after the other
chain : (p q a b s t r : ℕ) → p * s ≤ q * t → a * t ≤ b * r → p * a * s ≤ q * b * r
chain p q a b s t r first second =
    let one : a * (p * s) ≤ a * (q * t) = mul-le-mul_left a first in
    let two : q * (a * t) ≤ q * (b * r) = mul-le-mul_left q second in
    let left : p * a * s ≡ a * (p * s) = ap (λ (c : ℕ). c * s) (mul_comm p a) ∙ mul_assoc a p s in
    let middle : a * (q * t) ≡ q * (a * t) =
    sym (mul_assoc a q t) ∙ ap (λ (c : ℕ). c * t) (mul_comm a q) ∙ mul_assoc q a t in
    let right : q * (b * r) ≡ q * b * r = sym (mul_assoc q b r) in
    omega (arith, one, two, left, middle, right)

none_yet : (a b s : ℕ) → a ^ 0 * s ≤ b ^ 0 * s
none_yet a b s = le_of_eq (ap (λ (c : ℕ). c * s) (pow-zero a ∙ sym (pow-zero b)))

pub at_least : (m : Square) (u : List ℕ) (low high : ℕ × ℕ) (n : ℕ) (y : ℕ → ℕ) → IsBounds m u low high
    → low.0 ^ n * paired m (slice_index u) y ≤ low.1 ^ n * paired m (slice_index u) (iterated m n y)
at_least m u low high zero y bounds = none_yet low.0 low.1 (paired m (slice_index u) y)
at_least m u low high (suc n) y bounds =
    let s : ℕ = paired m (slice_index u) y in
    let r : ℕ = paired m (slice_index u) (iterated m (suc n) y) in
    let done = at_least m u low high n y bounds in
    let step = step_least m (slice_index u) low.0 low.1 (iterated m n y) bounds.at_least in
    let both = chain (low.0 ^ n) (low.1 ^ n) low.0 low.1 s (paired m (slice_index u) (iterated m n y)) r done step in
    let P : ℕ → ℕ → Type 0 = λ a b. a * s ≤ b * r in
    let Q : ℕ → Type 0 = λ b. P (low.0 ^ suc n) b in
    let R : ℕ → Type 0 = λ a. P a (low.1 ^ n * low.1) in
    subst Q (sym (pow-suc low.1 n)) (subst R (sym (pow-suc low.0 n)) both)

pub at_most : (m : Square) (u : List ℕ) (low high : ℕ × ℕ) (n : ℕ) (y : ℕ → ℕ) → IsBounds m u low high
    → high.1 ^ n * paired m (slice_index u) (iterated m n y) ≤ high.0 ^ n * paired m (slice_index u) y
at_most m u low high zero y bounds = none_yet high.1 high.0 (paired m (slice_index u) y)
at_most m u low high (suc n) y bounds =
    let s : ℕ = paired m (slice_index u) y in
    let r : ℕ = paired m (slice_index u) (iterated m (suc n) y) in
    let done = at_most m u low high n y bounds in
    let step = step_most m (slice_index u) high.0 high.1 (iterated m n y) bounds.at_most in
    let both = chain high.1 high.0 (high.1 ^ n) (high.0 ^ n) r (paired m (slice_index u) (iterated m n y)) s step done
    in
    let P : ℕ → ℕ → Type 0 = λ a b. a * r ≤ b * s in
    let Q : ℕ → Type 0 = λ b. P (high.1 ^ suc n) b in
    let R : ℕ → Type 0 = λ a. P a (high.0 * high.0 ^ n) in
    subst Q (mul_comm high.0 (high.0 ^ n) ∙ sym (pow-suc high.0 n))
    (subst R (mul_comm high.1 (high.1 ^ n) ∙ sym (pow-suc high.1 n)) both)
