-- How many numbers below k pass a test: the numbers that pass are numbered in their order.
--
-- Let c k be how many numbers below k pass. It grows by one past each number that passes, and stays past the others.
-- So numbers that pass have different counts, in their order, and each number j below c n is the count of one: the
-- last number k at which the count is still j passes.
--
-- Where each number that passes one test passes another, no more pass the first; and fewer do where some number passes
-- the second alone. Whether any number below n passes is found by trying them all.
use Rattle.std.proofs.Common.{ℕ, zero, suc, Bool, true, false, cond, [], ◌≡◌, ◌≤◌, ◌<◌, ◌+◌, ◌⊎◌, inl, inr, ap, subst}
use Rattle.std.proofs.Common.{arith}
use Rattle.std.specs.List.{count_by, range_with_len}
use Rattle.std.proofs.lemmas.Bool.{cases_Bool, cases_lt}
use Rattle.std.proofs.lemmas.List.Sums.{sum_by-cons}

abbrev pub passing : (ℕ → Bool) → ℕ → ℕ
passing p k = count_by p (range_with_len 0 k)

-- 1 where k passes
abbrev one_at : (ℕ → Bool) → ℕ → ℕ
one_at p k = cond (p k) 1 0

one_yes : (p : ℕ → Bool) (k : ℕ) → p k ≡ true → one_at p k ≡ 1
one_yes p k e = ap (λ (b : Bool). cond b 1 0) e

one_no : (p : ℕ → Bool) (k : ℕ) → p k ≡ false → one_at p k ≡ 0
one_no p k e = ap (λ (b : Bool). cond b 1 0) e

counted-suc : (p : ℕ → Bool) (a n : ℕ)
    → count_by p (range_with_len a (suc n)) ≡ count_by p (range_with_len a n) + one_at p (a + n)
counted-suc p a zero =
    let here : a ≡ a + 0 = omega arith in
    omega (arith, sum_by-cons (one_at p) a [], ap (one_at p) here)
counted-suc p a (suc n) =
    let there : a + 1 + n ≡ a + suc n = omega arith in
    omega (
      arith,
      sum_by-cons (one_at p) a (range_with_len (a + 1) (suc n)),
      sum_by-cons (one_at p) a
          (range_with_len (a + 1) n),
      counted-suc p (a + 1) n,
      ap (one_at p) there,
    )

pub passing-suc : (p : ℕ → Bool) (k : ℕ) → passing p (suc k) ≡ passing p k + one_at p k
passing-suc p k =
    let here : 0 + k ≡ k = omega arith in
    omega (arith, counted-suc p 0 k, ap (one_at p) here)

pub passing-yes : (p : ℕ → Bool) (k : ℕ) → p k ≡ true → passing p (suc k) ≡ passing p k + 1
passing-yes p k e = omega (arith, passing-suc p k, one_yes p k e)

pub passing-no : (p : ℕ → Bool) (k : ℕ) → p k ≡ false → passing p (suc k) ≡ passing p k
passing-no p k e = omega (arith, passing-suc p k, one_no p k e)

pub passing-le : (p : ℕ → Bool) (k n : ℕ) → k ≤ n → passing p k ≤ passing p n
passing-le p k zero b =
    let e : k ≡ 0 = omega arith in
    omega (arith, ap (passing p) e)
passing-le p k (suc n) b =
    elim (cases_lt n k) [
      | inl c ↦ (let e : k ≡ suc n = omega arith in omega (arith, ap (passing p) e))
      | inr c ↦ omega (arith, passing-suc p n, passing-le p k n c)
    ]

-- a number that passes is counted past it
pub passing-grows : (p : ℕ → Bool) (k n : ℕ) → p k ≡ true → k < n → passing p k < passing p n
passing-grows p k n e b = omega (arith, passing-yes p k e, passing-le p (suc k) n b)

pub passing-few : (p : ℕ → Bool) (k : ℕ) → passing p k ≤ k
passing-few p zero = omega arith
passing-few p (suc k) =
    elim (cases_Bool (p k)) [
      | inl e ↦ omega (arith, passing-yes p k e, passing-few p k)
      | inr e ↦ omega (arith, passing-no p k e, passing-few p k)
    ]

-- each number below the count is that of a number that passes
pub numbered : (p : ℕ → Bool) (n j : ℕ) → j < passing p n → (k : ℕ) × (k < n) × (p k ≡ true) × (passing p k ≡ j)
numbered p zero j b = absurd (omega arith)
numbered p (suc n) j b =
    elim (cases_lt j (passing p n)) [
      | inl c ↦ (let (k, below, passes, is) = numbered p n j c in (k, omega arith, passes, is))
      | inr c ↦
          elim (cases_Bool (p n)) [
            | inl e ↦ (n, omega arith, e, omega (arith, passing-yes p n e))
            | inr e ↦ absurd (omega (arith, passing-no p n e))
          ]
    ]

-- ---- two tests

-- where what passes p passes q, and k passes q alone, fewer pass p
pub passing-subset : (p q : ℕ → Bool) → ((k : ℕ) → p k ≡ true → q k ≡ true) → (n : ℕ) → passing p n ≤ passing q n
passing-subset p q more zero = omega arith
passing-subset p q more (suc n) =
    elim (cases_Bool (p n)) [
      | inl e ↦ omega (arith, passing-yes p n e, passing-yes q n (more n e), passing-subset p q more n)
      | inr e ↦ omega (arith, passing-no p n e, passing-suc q n, passing-subset p q more n)
    ]

pub passing-fewer : (p q : ℕ → Bool) → ((k : ℕ) → p k ≡ true → q k ≡ true) → (k n : ℕ) → k < n → p k ≡ false
    → q k ≡ true → passing p n < passing q n
passing-fewer p q more k zero b e d = omega arith
passing-fewer p q more k (suc n) b e d =
    elim (cases_lt k n) [
      | inl c ↦
          elim (cases_Bool (p n)) [
            | inl f ↦ omega (arith, passing-yes p n f, passing-yes q n (more n f), passing-fewer p q more k n c e d)
            | inr f ↦ omega (arith, passing-no p n f, passing-suc q n, passing-fewer p q more k n c e d)
          ]
      | inr c ↦
          (let same : k ≡ n = omega arith in
          omega (
            arith,
            passing-no p n (subst (λ (i : ℕ). p i ≡ false) same e),
            passing-yes q n
                (subst (λ (i : ℕ). q i ≡ true) same d),
            passing-subset p q more n,
          ))
    ]

-- one below n passes, or none does
pub one_or_none : (p : ℕ → Bool) (n : ℕ) → ((k : ℕ) × (k < n) × (p k ≡ true)) ⊎ ((k : ℕ) → k < n → p k ≡ false)
one_or_none p zero = inr (λ k b. absurd (omega arith))
one_or_none p (suc n) =
    elim (one_or_none p n) [
      | inl h ↦ inl (h.0, omega (arith, h.1), h.2)
      | inr none ↦
          elim (cases_Bool (p n)) [
            | inl e ↦ inl (n, omega arith, e)
            | inr e ↦
                inr (λ k b. elim (cases_lt k n) [
                  | inl c ↦ none k c
                  | inr c ↦ (let same : n ≡ k = omega arith in subst (λ (i : ℕ). p i ≡ false) same e)
                ])
          ]
    ]
