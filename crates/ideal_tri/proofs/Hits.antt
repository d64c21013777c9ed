-- How often the labels of a list hit an edge.
--
-- Each label hits one edge, so one more label x in front of a list raises the number at the edge of x by one and leaves
-- all others. By induction on the list: an edge is hit where some entry is of it, and hit once at most where one entry
-- at most is of it. And if all labels are of the first n edges, the sum over these edges of how often each is hit is
-- the length of the list. So labels that hit each of n edges once are n labels; and where n labels hit no edge twice,
-- the sum is n with no part above 1, and each part is 1.
use Rattle.std.proofs.Common.{ℕ, zero, suc, ℤ, pos, Bool, true, cond, List, [], ◌∷◌, ◌≡◌, ◌≢◌, ◌≤◌, ◌<◌, ◌+◌, inl, inr}
use Rattle.std.proofs.Common.{refl, sym, ◌∙◌, ap, subst, arith, length, get_or, nat_eq, All, eq-eqb, ne_eqb}
use Rattle.std.proofs.lemmas.Bool.{cases_eq, cases_lt}
use Rattle.std.proofs.lemmas.List.Sums.{sum_by-cons, get_or-le-sum_by}
use Rattle.std.proofs.lemmas.List.Elements.{All-head, All-tail}
use Rattle.ideal_tri.specs.Labels.{edge_of}
use Rattle.ideal_tri.specs.Relabellings.{hits}
use Rattle.ideal_tri.specs.HitLaws.{HitLaws}

pub hits_hit : (x : ℤ) (xs : List ℤ) (e : ℕ) → edge_of x ≡ e → hits (x ∷ xs) e ≡ 1 + hits xs e
hits_hit x xs e h =
    sum_by-cons (λ y. cond (nat_eq (edge_of y) e) 1 0) x xs
    ∙ ap (λ (b : Bool). cond b 1 0 + hits xs e) (eq-eqb (edge_of x) e h)

pub hits_missed : (x : ℤ) (xs : List ℤ) (e : ℕ) → edge_of x ≢ e → hits (x ∷ xs) e ≡ hits xs e
hits_missed x xs e h =
    sum_by-cons (λ y. cond (nat_eq (edge_of y) e) 1 0) x xs
    ∙ ap (λ (b : Bool). cond b 1 0 + hits xs e) (ne_eqb (edge_of x) e h)
    ∙ omega arith

pub hits-le : (x : ℤ) (xs : List ℤ) (e : ℕ) → hits xs e ≤ hits (x ∷ xs) e
hits-le x xs e =
    elim (cases_eq (edge_of x) e) [
      | inl h ↦ omega (arith, hits_hit x xs e h)
      | inr h ↦ omega (arith, hits_missed x xs e h)
    ]

-- ---- places

-- the edge of an entry is hit
pub hit_at : (xs : List ℤ) (i e : ℕ) → i < length xs → edge_of (get_or xs i (pos 0)) ≡ e → 1 ≤ hits xs e
hit_at xs i e below is_e =
    let hit : nat_eq (edge_of (get_or xs i (pos 0))) e ≡ true = eq-eqb (edge_of (get_or xs i (pos 0))) e is_e in
    subst (λ (b : Bool). cond b 1 0 ≤ hits xs e) hit
    (get_or-le-sum_by (λ y. cond (nat_eq (edge_of y) e) 1 0) xs i (pos 0) below)

-- an edge that is hit is the edge of an entry
pub place_of_hit : (xs : List ℤ) (e : ℕ) → 1 ≤ hits xs e
    → (i : ℕ) × (i < length xs) × (edge_of (get_or xs i (pos 0)) ≡ e)
place_of_hit [] e h = absurd (omega arith)
place_of_hit (x ∷ xs) e h =
    elim (cases_eq (edge_of x) e) [
      | inl is_e ↦ (0, omega arith, is_e)
      | inr not_e ↦
          (let (i, below, is_e) = place_of_hit xs e (omega (arith, hits_missed x xs e not_e)) in
          (suc i, omega arith, is_e))
    ]

-- an edge that is hit once at most is the edge of one entry at most
pub one_place : (xs : List ℤ) (e i j : ℕ) → hits xs e ≤ 1 → i < length xs → j < length xs
    → edge_of (get_or xs i (pos 0)) ≡ e → edge_of (get_or xs j (pos 0)) ≡ e → i ≡ j
one_place [] e i j once i_in j_in i_is j_is = absurd (omega arith)
one_place (x ∷ xs) e zero zero once i_in j_in i_is j_is = refl
one_place (x ∷ xs) e zero (suc j) once i_in j_in i_is j_is =
    absurd (omega (arith, hits_hit x xs e i_is, hit_at xs j e (omega arith) j_is))
one_place (x ∷ xs) e (suc i) zero once i_in j_in i_is j_is =
    absurd (omega (arith, hits_hit x xs e j_is, hit_at xs i e (omega arith) i_is))
one_place (x ∷ xs) e (suc i) (suc j) once i_in j_in i_is j_is =
    ap suc (one_place xs e i j (omega (arith, hits-le x xs e)) (omega arith) (omega arith) i_is j_is)

-- and conversely
pub hits_le_one : (xs : List ℤ) (e : ℕ)
    → ((i j : ℕ) → i < length xs → j < length xs → edge_of (get_or xs i (pos 0)) ≡ e → edge_of (get_or xs j (pos 0)) ≡
    e → i ≡ j) → hits xs e ≤ 1
hits_le_one [] e h = omega arith
hits_le_one (x ∷ xs) e h =
    elim (cases_eq (edge_of x) e) [
      | inl is_e ↦
          elim (cases_lt 0 (hits xs e)) [
            | inl again ↦
                (let (i, below, there) = place_of_hit xs e again in
                let clash : 0 ≡ suc i = h 0 (suc i) (omega arith) (omega arith) is_e there in
                absurd (omega arith))
            | inr none ↦ omega (arith, hits_hit x xs e is_e)
          ]
      | inr not_e ↦
          (let rest : hits xs e ≤ 1 =
          hits_le_one xs e
          (λ i j i_in j_in i_is j_is.
          let same : suc i ≡ suc j = h (suc i) (suc j) (omega arith) (omega arith) i_is j_is in
          omega arith) in
          omega (arith, hits_missed x xs e not_e))
    ]

-- ---- sums over all edges

-- f 0 + .. + f (n - 1)
abbrev sum_below : ℕ → (ℕ → ℕ) → ℕ
sum_below zero f = 0
sum_below (suc n) f = f n + sum_below n f

sum_below-past : (x : ℤ) (xs : List ℤ) (n : ℕ) → n ≤ edge_of x → sum_below n (hits (x ∷ xs)) ≡ sum_below n (hits xs)
sum_below-past x xs zero h = refl
sum_below-past x xs (suc n) h = omega (arith, sum_below-past x xs n (omega arith), hits_missed x xs n (omega arith))

sum_below-cons : (x : ℤ) (xs : List ℤ) (n : ℕ) → edge_of x < n → sum_below n (hits (x ∷ xs)) ≡ 1 + sum_below n (hits xs)
sum_below-cons x xs zero h = absurd (omega arith)
sum_below-cons x xs (suc n) h =
    elim (cases_eq (edge_of x) n) [
      | inl is_n ↦ omega (arith, hits_hit x xs n is_n, sum_below-past x xs n (omega arith))
      | inr not_n ↦ omega (arith, hits_missed x xs n not_n, sum_below-cons x xs n (omega arith))
    ]

sum_below-hits : (xs : List ℤ) (n : ℕ) → All (λ x. edge_of x < n) xs → sum_below n (hits xs) ≡ length xs
sum_below-hits [] n h = none n
  where
    none : (m : ℕ) → sum_below m (hits []) ≡ 0
    none zero = refl
    none (suc m) = omega (arith, none m)
sum_below-hits (x ∷ xs) n h =
    omega (
      arith,
      sum_below-cons x xs n (All-head (λ y. edge_of y < n) x xs h),
      sum_below-hits xs n
          (All-tail (λ y. edge_of y < n) x xs h),
    )

sum_below-ones : (n : ℕ) (f : ℕ → ℕ) → ((e : ℕ) → e < n → f e ≡ 1) → sum_below n f ≡ n
sum_below-ones zero f h = refl
sum_below-ones (suc n) f h = omega (arith, h n (omega arith), sum_below-ones n f (λ e below. h e (omega arith)))

-- labels that hit each of n edges once are n
pub length_by_hits : (xs : List ℤ) (n : ℕ) → All (λ x. edge_of x < n) xs → ((e : ℕ) → e < n → hits xs e ≡ 1)
    → length xs ≡ n
length_by_hits xs n labels once = sym (sum_below-hits xs n labels) ∙ sum_below-ones n (hits xs) once

sum_below-le : (n : ℕ) (f : ℕ → ℕ) → ((e : ℕ) → f e ≤ 1) → sum_below n f ≤ n
sum_below-le zero f h = omega arith
sum_below-le (suc n) f h = omega (arith, h n, sum_below-le n f h)

all_one : (n : ℕ) (f : ℕ → ℕ) → ((e : ℕ) → f e ≤ 1) → sum_below n f ≡ n → (e : ℕ) → e < n → f e ≡ 1
all_one zero f h full e below = absurd (omega arith)
all_one (suc n) f h full e below =
    elim (cases_lt e n) [
      | inl l ↦ all_one n f h (omega (arith, h n, sum_below-le n f h)) e l
      | inr g ↦
          (let last : f n ≡ 1 = omega (arith, h n, sum_below-le n f h) in
          let same : n ≡ e = omega arith in
          subst (λ (m : ℕ). f m ≡ 1) same last)
    ]

-- as many labels as there are edges, no edge hit twice: each edge is hit once
pub each_hit_once : (xs : List ℤ) (n : ℕ) → All (λ x. edge_of x < n) xs → length xs ≡ n → ((e : ℕ) → hits xs e ≤ 1)
    → (e : ℕ) → e < n → hits xs e ≡ 1
each_hit_once xs n labels long once = all_one n (hits xs) once (sum_below-hits xs n labels ∙ long)

-- an edge past the last is hit by no label
pub hits_past : (xs : List ℤ) (n e : ℕ) → All (λ x. edge_of x < n) xs → n ≤ e → hits xs e ≡ 0
hits_past [] n e labels h = refl
hits_past (x ∷ xs) n e labels h =
    let small : edge_of x < n = All-head (λ y. edge_of y < n) x xs labels in
    hits_missed x xs e (omega arith) ∙ hits_past xs n e (All-tail (λ y. edge_of y < n) x xs labels) h

-- ---- the laws

pub hit_laws : HitLaws
hit_laws = record {
  hit = hits_hit;
  missed = hits_missed;
  at = hit_at;
  place = place_of_hit;
  one_place = one_place;
  at_most_once = hits_le_one;
  past = hits_past;
  as_many = length_by_hits;
  each_once = each_hit_once;
}
