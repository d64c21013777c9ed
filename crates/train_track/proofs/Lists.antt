-- Lists that are joined from the lists of several elements.
use Rattle.std.proofs.Common.{zero, suc, List, [], ◌∷◌, ◌++◌, ◌≡◌, ◌⊎◌, inl, inr, refl, sym}
use Rattle.std.proofs.Common.{subst, arith, get_or}
use Rattle.std.specs.List.{All, AllPairs, Contains, flat_map}
use Rattle.std.proofs.lemmas.List.Elements.{All-nil, All-head, All-tail, All-append}
use Rattle.std.proofs.lemmas.List.Elements.{Contains-append_left, Contains-append_right}
use Rattle.std.proofs.lemmas.List.Kept.{AllPairs-cons}

pub contains_here : {X : Type 0} (x : X) (xs : List X) → Contains (x ∷ xs) x
contains_here x xs = (0, omega arith, refl)

pub contains_later : {X : Type 0} (y : X) (xs : List X) (x : X) → Contains xs x → Contains (y ∷ xs) x
contains_later y xs x (k, within, is) = (suc k, omega arith, is)

-- an element is the first or a later one
pub contains_cases : {X : Type 0} (y : X) (xs : List X) (x : X) → Contains (y ∷ xs) x → (y ≡ x) ⊎ Contains xs x
contains_cases y xs x (zero, within, is) = inl is
contains_cases y xs x (suc k, within, is) = inr (k, omega arith, is)

pub pairs_tail : {X : Type 0} (R : X → X → Type 0) (x : X) (xs : List X) → AllPairs R (x ∷ xs) → AllPairs R xs
pairs_tail R x xs h i j d less within = h (suc i) (suc j) d (omega arith) (omega arith)

pub pairs_head : {X : Type 0} (R : X → X → Type 0) (x : X) (xs : List X) → AllPairs R (x ∷ xs) → All (R x) xs
pairs_head R x xs h k d within = h 0 (suc k) d (omega arith) (omega arith)

pub pairs_none : {X : Type 0} (R : X → X → Type 0) → AllPairs R []
pairs_none R i j d less within = absurd (omega arith)

pub pairs_one : {X : Type 0} (R : X → X → Type 0) (x : X) → AllPairs R (x ∷ [])
pairs_one R x = AllPairs-cons R x [] (All-nil (R x)) (pairs_none R)

pub pairs_append : {X : Type 0} (R : X → X → Type 0) (xs ys : List X) → AllPairs R xs → AllPairs R ys
    → All (λ x. All (R x) ys) xs
    → AllPairs R (xs ++ ys)
pairs_append R [] ys h k across = k
pairs_append R (x ∷ xs) ys h k across =
    AllPairs-cons R x (xs ++ ys)
    (All-append (R x) xs ys (pairs_head R x xs h) (All-head (λ x. All (R x) ys) x xs across))
    (pairs_append R xs ys (pairs_tail R x xs h) k (All-tail (λ x. All (R x) ys) x xs across))

module _ {X Y : Type 0} (f : X → List Y) where
  pub all_joined : (P : Y → Type 0) (xs : List X) → All (λ x. All P (f x)) xs → All P (flat_map f xs)
  all_joined P [] h = All-nil P
  all_joined P (x ∷ xs) h =
      All-append P (f x) (flat_map f xs) (All-head (λ x. All P (f x)) x xs h)
      (all_joined P xs (All-tail (λ x. All P (f x)) x xs h))

  pub contains_joined : (xs : List X) (x : X) (y : Y) → Contains xs x → Contains (f x) y → Contains (flat_map f xs) y
  contains_joined [] x y (k, within, is) h = absurd (omega arith)
  contains_joined (z ∷ xs) x y has h = elim (contains_cases z xs x has) [
    | inl e ↦ Contains-append_left (f z) (flat_map f xs) y (subst (λ (x : X). Contains (f x) y) (sym e) h)
    | inr later ↦ Contains-append_right (f z) (flat_map f xs) y (contains_joined xs x y later h)
  ]

  -- S relates different elements in order, and then R relates what they give
  pub pairs_joined : (R : Y → Y → Type 0) (S : X → X → Type 0) (xs : List X)
      → ((x x' : X) → S x x' → All (λ y. All (R y) (f x')) (f x)) → All (λ x. AllPairs R (f x)) xs → AllPairs S xs
      → AllPairs R (flat_map f xs)
  pairs_joined R S [] across each h = pairs_none R
  pairs_joined R S (x ∷ xs) across each h =
      pairs_append R (f x) (flat_map f xs) (All-head (λ x. AllPairs R (f x)) x xs each)
      (pairs_joined R S xs across (All-tail (λ x. AllPairs R (f x)) x xs each) (pairs_tail S x xs h))
      (over (f x) (pairs_head S x xs h))
    where
      over : (ys : List Y) → All (S x) xs → All (λ y. All (R y) (flat_map f xs)) (f x)
      over ys later =
          λ k d within. all_joined (R (get_or (f x) k d)) xs
          (λ i e inside. across x (get_or xs i e) (later i e inside) k d within)
