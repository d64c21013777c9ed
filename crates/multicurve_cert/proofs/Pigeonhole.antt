-- More things than numbers: two of them have one number.
--
-- The first thing has the number a. If no other has it, the numbers above a are lowered by one, and the other things,
-- one fewer, have one number fewer.
use Rattle.std.proofs.Common.{ℕ, zero, suc, List, [], ◌∷◌, ◌≡◌, ◌≢◌, ◌<◌, ◌≤◌, ◌-◌, ◌⊎◌, inl, inr, length, arith, refl}
use Rattle.std.proofs.lemmas.Bool.{cases_eq, cases_lt}
use Rattle.multicurve_cert.proofs.Distinct.{Each, Distinct}

-- ---- one number left out

-- the number b once a is left out
lowered_by : (a b : ℕ) → (a < b) ⊎ (b ≤ a) → ℕ
lowered_by a b (inl high) = b - 1
lowered_by a b (inr low) = b

-- the number of b among those that are not a
lowered : ℕ → ℕ → ℕ
lowered a b = lowered_by a b (cases_lt a b)

-- it is b, or one less where b is above a
lowered_is : (a b : ℕ) → a ≢ b → ((a < b) × (suc (lowered a b) ≡ b)) ⊎ ((b < a) × (lowered a b ≡ b))
unfolding lowered lowered_by
lowered_is a b n = go (cases_lt a b)
  where
    go : (c : (a < b) ⊎ (b ≤ a)) → ((a < b) × (suc (lowered_by a b c) ≡ b)) ⊎ ((b < a) × (lowered_by a b c ≡ b))
    go (inl high) = inl (high, omega arith)
    go (inr low) = inr (elim (cases_eq a b) [ inl e ↦ absurd (n e) | inr ne ↦ omega arith ], refl)

-- there is one number fewer
lowered_below : (a b n : ℕ) → a ≢ b → a < suc n → b < suc n → lowered a b < n
lowered_below a b n apart h k = elim (lowered_is a b apart) [ inl high ↦ omega arith | inr low ↦ omega arith ]

-- different numbers stay different
lowered_one : (a b c : ℕ) → a ≢ b → a ≢ c → lowered a b ≡ lowered a c → b ≡ c
lowered_one a b c n m e =
    elim (lowered_is a b n) [
      | inl high ↦ elim (lowered_is a c m) [ inl high' ↦ omega arith | inr low' ↦ omega arith ]
      | inr low ↦ elim (lowered_is a c m) [ inl high' ↦ omega arith | inr low' ↦ omega arith ]
    ]

-- ---- two of one number

-- two different things with P that have one number
pub record Shared {A : Type 0} (P : A → Type 0) (f : A → ℕ) : Type 0 where
  pub first : A
  pub second : A
  pub of_first : P first
  pub of_second : P second
  pub apart : first ≢ second
  pub same : f first ≡ f second

-- another thing with the number of x, or none
shared_or_none : {A : Type 0} → (P : A → Type 0) (f : A → ℕ) (x : A) (ys : List A) → P x → Each P ys
    → Each (λ y. x ≢ y) ys → Shared P f ⊎ Each (λ y. P y × (f x ≢ f y)) ys
shared_or_none P f x [] p h apart = inr tt
shared_or_none P f x (y ∷ ys) p h apart =
    elim (cases_eq (f x) (f y)) [
      | inl e ↦
          inl (record { first = x; second = y; of_first = p; of_second = h.0; apart = apart.0; same = e })
      | inr n ↦
          elim (shared_or_none P f x ys p h.1 apart.1) [ inl s ↦ inl s | inr none ↦ inr ((h.0, n), none) ]
    ]

-- more than n things with numbers below n: two of them have one number
pub two_share : {A : Type 0} → (P : A → Type 0) (f : A → ℕ) (n : ℕ) → ((x : A) → P x → f x < n) → (xs : List A)
    → Each P xs → Distinct xs → n < length xs → Shared P f
two_share P f n below [] h d many = absurd (omega arith)
two_share P f zero below (x ∷ xs) h d many = absurd (let k : f x < 0 = below x h.0 in omega arith)
two_share {A = A} P f (suc n) below (x ∷ xs) h d many =
    elim (shared_or_none P f x xs h.0 h.1 d.0) [
      | inl s ↦ s
      | inr none ↦
          raised
          (two_share (λ (y : A). P y × (f x ≢ f y)) (λ y. lowered (f x) (f y)) n
          (λ y p. lowered_below (f x) (f y) n p.1 (below x h.0) (below y p.0)) xs none d.1 (omega arith))
    ]
  where
    raised : Shared (λ (y : A). P y × (f x ≢ f y)) (λ y. lowered (f x) (f y)) → Shared P f
    raised s = record {
      first = s.first;
      second = s.second;
      of_first = s.of_first.0;
      of_second = s.of_second.0;
      apart = s.apart;
      same = lowered_one (f x) (f s.first) (f s.second) s.of_first.1 s.of_second.1 s.same;
    }
