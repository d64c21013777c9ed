-- Lists of which no two elements are the same: parts, rotations, and what stands at two places.
use Rattle.std.proofs.Common.{ℕ, zero, suc, List, [], ◌∷◌, ◌++◌, ◌≡◌, ◌≢◌, ◌<◌, sym, subst, append_assoc}
use Rattle.std.proofs.Common.{arith, length, map, get_or}
use Rattle.std.proofs.lemmas.List.{append-nil}

-- ---- what holds of each element

abbrev pub Each : {A : Type 0} → (A → Type 0) → List A → Type 0
Each P [] = Unit {0}
Each P (x ∷ xs) = P x × Each P xs

pub Each-append : {A : Type 0} → (P : A → Type 0) (u v : List A) → Each P u → Each P v → Each P (u ++ v)
Each-append P [] v h k = k
Each-append P (x ∷ u) v h k = (h.0, Each-append P u v h.1 k)

pub Each-weaken : {A : Type 0} → (P Q : A → Type 0) → ((x : A) → P x → Q x) → (xs : List A) → Each P xs → Each Q xs
Each-weaken P Q f [] h = tt
Each-weaken P Q f (x ∷ xs) h = (f x h.0, Each-weaken P Q f xs h.1)

pub Each-map : {A B : Type 0} → (P : B → Type 0) (f : A → B) (xs : List A) → Each (λ x. P (f x)) xs
    → Each P (map f xs)
Each-map P f [] h = tt
Each-map P f (x ∷ xs) h = (h.0, Each-map P f xs h.1)

pub Each-at : {A : Type 0} → (P : A → Type 0) (xs : List A) (i : ℕ) (d : A) → Each P xs → i < length xs
    → P (get_or xs i d)
Each-at P [] i d h inside = absurd (omega arith)
Each-at P (x ∷ xs) zero d h inside = h.0
Each-at P (x ∷ xs) (suc i) d h inside = Each-at P xs i d h.1 (omega arith)

-- ---- lists of different elements

abbrev pub Distinct : {A : Type 0} → List A → Type 0
Distinct [] = Unit {0}
Distinct (x ∷ xs) = Each (λ y. x ≢ y) xs × Distinct xs

pub Distinct-append : {A : Type 0} → (u v : List A) → Distinct u → Distinct v
    → Each (λ x. Each (λ y. x ≢ y) v) u → Distinct (u ++ v)
Distinct-append [] v h k apart = k
Distinct-append {A = A} (x ∷ u) v h k apart =
    (Each-append (λ (y : A). x ≢ y) u v h.0 apart.0, Distinct-append u v h.1 k apart.1)

-- images under a map that is one to one
pub Distinct-map : {A B : Type 0} → (f : A → B) → ((x y : A) → f x ≡ f y → x ≡ y) → (xs : List A) → Distinct xs
    → Distinct (map f xs)
Distinct-map f one [] h = tt
Distinct-map {A = A} {B = B} f one (x ∷ xs) h = (
  Each-map (λ (z : B). f x ≢ z) f xs (Each-weaken (λ (y : A). x ≢ y) (λ (y : A). f x ≢ f y)
      (λ y n e. n (one x y e)) xs h.0),
  Distinct-map f one xs h.1,
)

-- one more element at the end
pub Distinct-push : {A : Type 0} → (xs : List A) (x : A) → Distinct xs → Each (λ y. y ≢ x) xs
    → Distinct (xs ++ (x ∷ []))
Distinct-push [] x h apart = (tt, tt)
Distinct-push {A = A} (y ∷ xs) x h apart =
    (Each-append (λ (z : A). y ≢ z) xs (x ∷ []) h.0 (apart.0, tt), Distinct-push xs x h.1 apart.1)

pub Distinct-step : {A : Type 0} → (x : A) (xs : List A) → Distinct (x ∷ xs) → Distinct (xs ++ (x ∷ []))
Distinct-step {A = A} x xs h =
    Distinct-push xs x h.1
    (Each-weaken (λ (y : A). x ≢ y) (λ (y : A). y ≢ x) (λ y n e. n (sym e)) xs h.0)

-- rotations, by as many steps
pub Distinct-turned : {A : Type 0} → (a b : List A) → Distinct (a ++ b) → Distinct (b ++ a)
Distinct-turned [] b h = subst Distinct (sym (append-nil b)) h
Distinct-turned (x ∷ a) b h =
    subst Distinct (append_assoc b (x ∷ []) a)
    (Distinct-turned a (b ++ (x ∷ [])) (subst Distinct (append_assoc a b (x ∷ [])) (Distinct-step x (a ++ b) h)))

-- two places have different elements
pub Distinct-at : {A : Type 0} → (xs : List A) (i j : ℕ) (d : A) → Distinct xs → i < j → j < length xs
    → get_or xs i d ≢ get_or xs j d
Distinct-at [] i j d h before inside = absurd (omega arith)
Distinct-at (x ∷ xs) i zero d h before inside = absurd (omega arith)
Distinct-at {A = A} (x ∷ xs) zero (suc j) d h before inside =
    Each-at (λ (y : A). x ≢ y) xs j d h.0 (omega arith)
Distinct-at (x ∷ xs) (suc i) (suc j) d h before inside =
    Distinct-at xs i j d h.1 (omega arith) (omega arith)
