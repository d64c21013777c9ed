-- Lists that have two elements for each of another list.
use Rattle.std.proofs.Common.{◌≡◌, ◌⊎◌, ◌<◌, ◌+◌, ◌*◌, ℕ, zero, suc, List, [], ◌∷◌, length, get_or, inl, inr}
use Rattle.std.proofs.Common.{refl, sym, ◌∙◌, ap, subst, arith}
use Rattle.std.specs.List.{All, flat_map}

-- two elements for each
abbrev pub pairs : {A B : Type 0} → (A → B) → (A → B) → List A → List B
pairs u v xs = flat_map (λ x. u x ∷ (v x ∷ [])) xs

pub pairs_long : {A B : Type 0} (u v : A → B) (xs : List A) → length (pairs u v xs) ≡ 2 * length xs
pairs_long u v [] = refl
pairs_long u v (x ∷ xs) = let rest = pairs_long u v xs in omega arith

pub pair_on : {A B : Type 0} (u v : A → B) (xs : List A) (i : ℕ) (d : A) (e : B) → i < length xs
    → get_or (pairs u v xs) (2 * i) e ≡ u (get_or xs i d)
pair_on u v [] i d e less = absurd (omega arith)
pair_on u v (x ∷ xs) zero d e less = refl
pair_on {A} {B} u v (x ∷ xs) (suc i) d e less =
    ap (λ (n : ℕ). get_or (u x ∷ (v x ∷ pairs u v xs)) n e)
    (let two : 2 * suc i ≡ suc (suc (2 * i)) = omega arith in two)
    ∙ pair_on u v xs i d e (omega arith)

pub pair_back : {A B : Type 0} (u v : A → B) (xs : List A) (i : ℕ) (d : A) (e : B) → i < length xs
    → get_or (pairs u v xs) (2 * i + 1) e ≡ v (get_or xs i d)
pair_back u v [] i d e less = absurd (omega arith)
pair_back u v (x ∷ xs) zero d e less = refl
pair_back {A} {B} u v (x ∷ xs) (suc i) d e less =
    ap (λ (n : ℕ). get_or (u x ∷ (v x ∷ pairs u v xs)) n e)
    (let two : 2 * suc i + 1 ≡ suc (suc (2 * i + 1)) = omega arith in two)
    ∙ pair_back u v xs i d e (omega arith)

-- a number is twice another, or one more
pub halves : (i : ℕ) → (k : ℕ) × ((i ≡ 2 * k) ⊎ (i ≡ 2 * k + 1))
halves zero = (0, inl refl)
halves (suc zero) = (0, inr refl)
halves (suc (suc i)) =
    let (k, parity) = halves i in (
      suc k,
      elim parity [
        | inl even ↦ inl (omega arith)
        | inr odd ↦ inr (omega arith)
      ],
    )

-- halves and doubles below others
pub half_below : (i k n m : ℕ) → i ≡ 2 * k → i < m → m ≡ 2 * n → k < n
half_below i k n m even less double = omega arith

pub odd_half_below : (i k n m : ℕ) → i ≡ 2 * k + 1 → i < m → m ≡ 2 * n → k < n
odd_half_below i k n m odd less double = omega arith

pub double_below : (i n m : ℕ) → i < n → m ≡ 2 * n → 2 * i < m
double_below i n m less double = omega arith

pub odd_double_below : (i n m : ℕ) → i < n → m ≡ 2 * n → 2 * i + 1 < m
odd_double_below i n m less double = omega arith

-- what holds of both elements of each pair holds of all
pub all_pairs : {A B : Type 0} (P : B → Type 0) (u v : A → B) (xs : List A) → All (λ x. P (u x)) xs
    → All (λ x. P (v x)) xs → All P (pairs u v xs)
all_pairs {A} {B} P u v [] on back i d less = absurd (omega arith)
all_pairs {A} {B} P u v (x ∷ xs) on back i d less =
    let long : length (pairs u v (x ∷ xs)) ≡ 2 * length (x ∷ xs) = pairs_long u v (x ∷ xs) in
    let (k, parity) = halves i in
    elim parity [
      | inl even ↦
          (let within : k < length (x ∷ xs) = half_below i k (length (x ∷ xs)) _ even less long in
          subst (λ (n : ℕ). P (get_or (pairs u v (x ∷ xs)) n d)) (sym even)
          (subst P (sym (pair_on u v (x ∷ xs) k x d within)) (on k x within)))
      | inr odd ↦
          (let within : k < length (x ∷ xs) = odd_half_below i k (length (x ∷ xs)) _ odd less long in
          subst (λ (n : ℕ). P (get_or (pairs u v (x ∷ xs)) n d)) (sym odd)
          (subst P (sym (pair_back u v (x ∷ xs) k x d within)) (back k x within)))
    ]

-- and back
pub pairs_on : {A B : Type 0} (P : B → Type 0) (u v : A → B) (xs : List A) → All P (pairs u v xs)
    → All (λ x. P (u x)) xs
pairs_on {A} {B} P u v xs all i d less =
    subst P (pair_on u v xs i d (u d) less)
    (all (2 * i) (u d) (double_below i (length xs) (length (pairs u v xs)) less (pairs_long u v xs)))

pub pairs_back : {A B : Type 0} (P : B → Type 0) (u v : A → B) (xs : List A) → All P (pairs u v xs)
    → All (λ x. P (v x)) xs
pairs_back {A} {B} P u v xs all i d less =
    subst P (pair_back u v xs i d (v d) less)
    (all (2 * i + 1) (v d) (odd_double_below i (length xs) (length (pairs u v xs)) less (pairs_long u v xs)))
