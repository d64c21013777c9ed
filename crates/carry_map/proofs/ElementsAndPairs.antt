-- Lists: their elements, and pairs in order.
--
-- An element of a list is given by its place. The first place is the head, and the others are places of the tail, so
-- each fact is an induction on the list: the elements of a mapped list are the images of those of the list, those of
-- lists joined end to end are those of the parts, and those of a filtered list are those that pass. A relation that
-- holds of each element and each later one holds of a list with one more in front where it holds of that one and each
-- other, and of two lists end to end where it also holds across.
use Rattle.std.proofs.Common.{ℕ, zero, suc, Bool, true, List, [], ◌∷◌, ◌++◌, ◌≡◌, ◌<◌, ◌⊎◌, inl, inr, refl, sym}
use Rattle.std.proofs.Common.{◌∙◌, ap, subst, arith, length, map, get_or}
use Rattle.std.specs.List.{All, AllPairs, Contains, filter, flat_map}
use Rattle.std.proofs.lemmas.List.Elements.{All-nil, All-head, All-tail, All-append}
use Rattle.std.proofs.lemmas.List.Elements.{Contains-append_left, Contains-append_right, Contains-append_cases}
use Rattle.std.proofs.lemmas.List.Kept.{AllPairs-cons}
use Rattle.std.proofs.lemmas.Bool.{cases_Bool, cond-true, cond-false}

-- ---- elements

pub contains_here : {X : Type 0} (x : X) (xs : List X) → Contains (x ∷ xs) x
contains_here x xs = (0, omega arith, refl)

pub contains_later : {X : Type 0} (y : X) (xs : List X) (x : X) → Contains xs x → Contains (y ∷ xs) x
contains_later y xs x (k, within, is) = (suc k, omega arith, is)

-- an element is the first or a later one
pub contains_cases : {X : Type 0} (y : X) (xs : List X) (x : X) → Contains (y ∷ xs) x → (y ≡ x) ⊎ Contains xs x
contains_cases y xs x (zero, within, is) = inl is
contains_cases y xs x (suc k, within, is) = inr (k, omega arith, is)

pub contains_none : {X : Type 0} (x : X) → Contains [] x → ⊥
contains_none x (k, within, is) = omega arith

pub contains_only : {X : Type 0} (y x : X) → Contains (y ∷ []) x → y ≡ x
contains_only y x h = elim (contains_cases y [] x h) [ inl e ↦ e | inr k ↦ absurd (contains_none x k) ]

module _ {X Y : Type 0} (f : X → Y) where
  pub contains_map : (xs : List X) (x : X) → Contains xs x → Contains (map f xs) (f x)
  contains_map [] x h = absurd (contains_none x h)
  contains_map (z ∷ xs) x h = elim (contains_cases z xs x h) [
    | inl e ↦ subst (λ (v : X). Contains (map f (z ∷ xs)) (f v)) e (contains_here (f z) (map f xs))
    | inr later ↦ contains_later (f z) (map f xs) (f x) (contains_map xs x later)
  ]

  pub map_contains : (xs : List X) (y : Y) → Contains (map f xs) y → (x : X) × Contains xs x × (f x ≡ y)
  map_contains [] y h = absurd (contains_none y h)
  map_contains (z ∷ xs) y h = elim (contains_cases (f z) (map f xs) y h) [
    | inl e ↦ (z, contains_here z xs, e)
    | inr later ↦ (let (x, has, is) = map_contains xs y later in (x, contains_later z xs x has, is))
  ]

module _ {X Y : Type 0} (f : X → List Y) where
  pub contains_joined : (xs : List X) (x : X) (y : Y) → Contains xs x → Contains (f x) y → Contains (flat_map f xs) y
  contains_joined [] x y h k = absurd (contains_none x h)
  contains_joined (z ∷ xs) x y has h = elim (contains_cases z xs x has) [
    | inl e ↦ Contains-append_left (f z) (flat_map f xs) y (subst (λ (v : X). Contains (f v) y) (sym e) h)
    | inr later ↦ Contains-append_right (f z) (flat_map f xs) y (contains_joined xs x y later h)
  ]

  pub joined_contains : (xs : List X) (y : Y) → Contains (flat_map f xs) y → (x : X) × Contains xs x × Contains (f x) y
  joined_contains [] y h = absurd (contains_none y h)
  joined_contains (x ∷ xs) y h = elim (Contains-append_cases (f x) (flat_map f xs) y h) [
    | inl here ↦ (x, contains_here x xs, here)
    | inr later ↦ (let (z, has, at) = joined_contains xs y later in (z, contains_later x xs z has, at))
  ]

module _ {X : Type 0} (p : X → Bool) where
  pub contains_filtered : (xs : List X) (x : X) → Contains xs x → p x ≡ true → Contains (filter p xs) x
  contains_filtered [] x h passes = absurd (contains_none x h)
  contains_filtered (y ∷ xs) x h passes = elim (contains_cases y xs x h) [
    | inl e ↦
        subst (λ (zs : List X). Contains zs x) (sym (cond-true (p y) (y ∷ filter p xs) (filter p xs) (ap p e ∙ passes)))
        (subst (Contains (y ∷ filter p xs)) e (contains_here y (filter p xs)))
    | inr later ↦
        (let rest : Contains (filter p xs) x = contains_filtered xs x later passes in
        elim (cases_Bool (p y)) [
          | inl kept ↦
              subst (λ (zs : List X). Contains zs x) (sym (cond-true (p y) (y ∷ filter p xs) (filter p xs) kept))
              (contains_later y (filter p xs) x rest)
          | inr dropped ↦
              subst (λ (zs : List X). Contains zs x) (sym (cond-false (p y) (y ∷ filter p xs) (filter p xs) dropped))
              rest
        ])
  ]

  pub filtered_contains : (xs : List X) (x : X) → Contains (filter p xs) x → Contains xs x × (p x ≡ true)
  filtered_contains [] x h = absurd (contains_none x h)
  filtered_contains (y ∷ xs) x h = elim (cases_Bool (p y)) [
    | inl kept ↦
        elim (contains_cases y (filter p xs) x
        (subst (λ (zs : List X). Contains zs x) (cond-true (p y) (y ∷ filter p xs) (filter p xs) kept) h)) [
          | inl e ↦ (subst (Contains (y ∷ xs)) e (contains_here y xs), sym (ap p e) ∙ kept)
          | inr later ↦ (let rest = filtered_contains xs x later in (contains_later y xs x rest.0, rest.1))
        ]
    | inr dropped ↦
        (let rest = filtered_contains xs x
        (subst (λ (zs : List X). Contains zs x) (cond-false (p y) (y ∷ filter p xs) (filter p xs) dropped) h) in
        (contains_later y xs x rest.0, rest.1))
  ]

-- ---- pairs in order

module _ {X : Type 0} (R : X → X → Type 0) where
  pub pairs_none : AllPairs R []
  pairs_none i j d less within = absurd (omega arith)

  pub pairs_one : (x : X) → AllPairs R (x ∷ [])
  pairs_one x = AllPairs-cons R x [] (All-nil (R x)) pairs_none

  pub pairs_tail : (x : X) (xs : List X) → AllPairs R (x ∷ xs) → AllPairs R xs
  pairs_tail x xs h i j d less within = h (suc i) (suc j) d (omega arith) (omega arith)

  pub pairs_head : (x : X) (xs : List X) → AllPairs R (x ∷ xs) → All (R x) xs
  pairs_head x xs h k d within = h 0 (suc k) d (omega arith) (omega arith)

  pub pairs_append : (xs ys : List X) → AllPairs R xs → AllPairs R ys → All (λ x. All (R x) ys) xs
      → AllPairs R (xs ++ ys)
  pairs_append [] ys h k across = k
  pairs_append (x ∷ xs) ys h k across =
      AllPairs-cons R x (xs ++ ys)
      (All-append (R x) xs ys (pairs_head x xs h) (All-head (λ x. All (R x) ys) x xs across))
      (pairs_append xs ys (pairs_tail x xs h) k (All-tail (λ x. All (R x) ys) x xs across))

pub pairs_imply : {X : Type 0} (R S : X → X → Type 0) (P : X → Type 0) (xs : List X)
    → ((x y : X) → P x → P y → R x y → S x y) → All P xs → AllPairs R xs → AllPairs S xs
pairs_imply R S P xs h all pairs i j d less within =
    h (get_or xs i d) (get_or xs j d) (all i d (omega arith)) (all j d within) (pairs i j d less within)

same_at : {X : Type 0} (zs : List X) (k : ℕ) (d : X) → k < length zs → get_or zs k (get_or zs k d) ≡ get_or zs k d
same_at [] k d within = absurd (omega arith)
same_at (z ∷ zs) zero d within = refl
same_at (z ∷ zs) (suc k) d within = same_at zs k d (omega arith)

pub all_from_contains : {X : Type 0} (P : X → Type 0) (xs : List X) → ((x : X) → Contains xs x → P x) → All P xs
all_from_contains P xs h k d within = h (get_or xs k d) (k, within, same_at xs k d within)
