-- Elements of lists: of a list with one more in front, of a filtered list, of a range, and those that pass a test.
--
-- An element of a list is given by its place. The first place is the head, and the others are places of the tail. So
-- each fact is an induction on the list: an element that passes a test is found by it and kept by a filter, a filter
-- has elements that pass, a range from a with n numbers has those from a to below a + n, and the elements of lists
-- that are joined end to end are those of the parts.
use Rattle.std.proofs.Common.{ℕ, zero, suc, Bool, true, List, [], ◌∷◌, ◌≡◌, ◌<◌, ◌≤◌, ◌+◌, ◌⊎◌, inl, inr, refl, sym}
use Rattle.std.proofs.Common.{◌∙◌, ap, subst, arith, ◌-◌}
use Rattle.std.proofs.lemmas.List.FromFn.{length-range_with_len, get_or-range_with_len}
use Rattle.std.specs.List.{Contains, filter, flat_map, list_any, range_with_len}
use Rattle.std.proofs.lemmas.List.Elements.{Contains-append_left, Contains-append_right, Contains-append_cases}
use Rattle.std.proofs.lemmas.Bool.{or_cases, or_left, or_right, cases_Bool, cond-true, cond-false}

-- ---- one more in front

pub member_here : {X : Type 0} → (x : X) (xs : List X) → Contains (x ∷ xs) x
member_here x xs = (0, omega arith, refl)

pub member_later : {X : Type 0} → (x : X) (xs : List X) (y : X) → Contains xs y → Contains (x ∷ xs) y
member_later x xs y (k, below, e) = (suc k, omega arith, e)

pub member_cases : {X : Type 0} → (x : X) (xs : List X) (y : X) → Contains (x ∷ xs) y → (x ≡ y) ⊎ Contains xs y
member_cases x xs y (zero, below, e) = inl e
member_cases x xs y (suc k, below, e) = inr (k, omega arith, e)

pub no_member : {X : Type 0} → (y : X) → Contains [] y → ⊥
no_member y (k, below, e) = omega arith

-- ---- tests

pub any_member : {X : Type 0} → (p : X → Bool) (xs : List X) → list_any p xs ≡ true
    → (x : X) × Contains xs x × (p x ≡ true)
any_member p [] h = absurd (cc)
any_member p (x ∷ xs) h =
    elim (or_cases (p x) (list_any p xs) h) [
      | inl here ↦ (x, member_here x xs, here)
      | inr later ↦ (let (y, in_xs, passes) = any_member p xs later in (y, member_later x xs y in_xs, passes))
    ]

pub member_any : {X : Type 0} → (p : X → Bool) (xs : List X) (x : X) → Contains xs x → p x ≡ true → list_any p xs ≡ true
member_any p [] x h passes = absurd (no_member x h)
member_any p (y ∷ xs) x h passes =
    elim (member_cases y xs x h) [
      | inl e ↦ or_left (p y) (list_any p xs) (ap p e ∙ passes)
      | inr later ↦ or_right (p y) (list_any p xs) (member_any p xs x later passes)
    ]

-- ---- filters

pub member_filter : {X : Type 0} → (p : X → Bool) (xs : List X) (x : X) → Contains xs x → p x ≡ true
    → Contains (filter p xs) x
member_filter p [] x h passes = absurd (no_member x h)
member_filter p (y ∷ xs) x h passes =
    elim (member_cases y xs x h) [
      | inl e ↦
          subst (λ (zs : List _). Contains zs x)
          (sym (cond-true (p y) (y ∷ filter p xs) (filter p xs) (ap p e ∙ passes)))
          (subst (Contains (y ∷ filter p xs)) e (member_here y (filter p xs)))
      | inr later ↦
          (let rest : Contains (filter p xs) x = member_filter p xs x later passes in
          elim (cases_Bool (p y)) [
            | inl kept ↦
                subst (λ (zs : List _). Contains zs x) (sym (cond-true (p y) (y ∷ filter p xs) (filter p xs) kept))
                (member_later y (filter p xs) x rest)
            | inr dropped ↦
                subst (λ (zs : List _). Contains zs x) (sym (cond-false (p y) (y ∷ filter p xs) (filter p xs) dropped))
                rest
          ])
    ]

pub filter_member : {X : Type 0} → (p : X → Bool) (xs : List X) (x : X) → Contains (filter p xs) x
    → Contains xs x × (p x ≡ true)
filter_member p [] x h = absurd (no_member x h)
filter_member p (y ∷ xs) x h =
    elim (cases_Bool (p y)) [
      | inl kept ↦
          elim (member_cases y (filter p xs) x
          (subst (λ (zs : List _). Contains zs x) (cond-true (p y) (y ∷ filter p xs) (filter p xs) kept) h)) [
            | inl e ↦ (subst (Contains (y ∷ xs)) e (member_here y xs), sym (ap p e) ∙ kept)
            | inr later ↦ (let rest = filter_member p xs x later in (member_later y xs x rest.0, rest.1))
          ]
      | inr dropped ↦
          (let rest = filter_member p xs x
          (subst (λ (zs : List _). Contains zs x) (cond-false (p y) (y ∷ filter p xs) (filter p xs) dropped) h) in
          (member_later y xs x rest.0, rest.1))
    ]

-- ---- ranges

pub member_range : (a n k : ℕ) → a ≤ k → k < a + n → Contains (range_with_len a n) k
member_range a n k low high =
    let below : k - a < n = omega arith in
    (k - a, omega (arith, length-range_with_len a n), get_or-range_with_len a n (k - a) k below ∙ omega arith)

pub range_member : (a n k : ℕ) → Contains (range_with_len a n) k → (a ≤ k) × (k < a + n)
range_member a n k (i, below, e) =
    let within : i < n = omega (arith, length-range_with_len a n) in
    let at : k ≡ a + i = sym e ∙ get_or-range_with_len a n i k within in
    (omega arith, omega arith)

-- ---- lists joined end to end

pub member_flat_map : {X Y : Type 0} → (f : X → List Y) (xs : List X) (x : X) (y : Y) → Contains xs x → Contains (f x) y
    → Contains (flat_map f xs) y
member_flat_map f [] x y h k = absurd (no_member x h)
member_flat_map f (z ∷ xs) x y h k =
    elim (member_cases z xs x h) [
      | inl e ↦ Contains-append_left (f z) (flat_map f xs) y (subst (λ v. Contains (f v) y) (sym e) k)
      | inr later ↦ Contains-append_right (f z) (flat_map f xs) y (member_flat_map f xs x y later k)
    ]

pub flat_map_member : {X Y : Type 0} → (f : X → List Y) (xs : List X) (y : Y) → Contains (flat_map f xs) y
    → (x : X) × Contains xs x × Contains (f x) y
flat_map_member f [] y h = absurd (no_member y h)
flat_map_member f (x ∷ xs) y h =
    elim (Contains-append_cases (f x) (flat_map f xs) y h) [
      | inl here ↦ (x, member_here x xs, here)
      | inr later ↦ (let (z, in_xs, at) = flat_map_member f xs y later in (z, member_later x xs z in_xs, at))
    ]
