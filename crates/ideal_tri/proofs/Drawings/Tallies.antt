-- Elements of a list that pass a test: counted, split off, and summed over up to a relation.
--
-- The last part is what stands in for permutations. A test `same` puts elements into classes, and a function has the
-- same value throughout each. If both lists have as many elements of each class, then the sums of the function are
-- equal: the first element of one list has a partner in the other; both are taken out, and the rest follows by
-- induction.
use Rattle.std.proofs.Common.{ℕ, Bool, true, false, cond, List, [], ◌∷◌, ◌++◌, ◌≡◌, ◌≢◌, ◌+◌, suc, inl, inr, refl, sym}
use Rattle.std.proofs.Common.{◌∙◌, ap, subst, arith, map}
use Rattle.std.specs.List.{All, count_by, sum_by, flat_map}
use Rattle.std.proofs.lemmas.Bool.{cases_Bool}
use Rattle.std.proofs.lemmas.List.Elements.{All-nil, All-cons, All-head, All-tail, All-append}
use Rattle.std.proofs.lemmas.List.Sums.{sum_by-cons, sum_by-append}

-- ---- parts of a list

pub All-front : {A : Type 0} (P : A → Type 0) (xs ys : List A) → All P (xs ++ ys) → All P xs
All-front P [] ys h = All-nil P
All-front P (x ∷ xs) ys h = All-cons P x xs (All-head P x (xs ++ ys) h) (All-front P xs ys (All-tail P x (xs ++ ys) h))

pub All-back : {A : Type 0} (P : A → Type 0) (xs ys : List A) → All P (xs ++ ys) → All P ys
All-back P [] ys h = h
All-back P (x ∷ xs) ys h = All-back P xs ys (All-tail P x (xs ++ ys) h)

-- ---- counts

pub count_by-cons : {A : Type 0} (p : A → Bool) (x : A) (xs : List A)
    → count_by p (x ∷ xs) ≡ cond (p x) 1 0 + count_by p xs
count_by-cons p x xs = sum_by-cons (λ y. cond (p y) 1 0) x xs

pub count_by-append : {A : Type 0} (p : A → Bool) (xs ys : List A)
    → count_by p (xs ++ ys) ≡ count_by p xs + count_by p ys
count_by-append p xs ys = sum_by-append (λ y. cond (p y) 1 0) xs ys

pub one_if : (b : Bool) → b ≡ true → ◌≡◌ {A = ℕ} (cond b 1 0) 1
one_if b e = ap (λ (t : Bool). cond t 1 0) e

pub none_if : (b : Bool) → b ≡ false → ◌≡◌ {A = ℕ} (cond b 1 0) 0
none_if b e = ap (λ (t : Bool). cond t 1 0) e

pub count_by-yes : {A : Type 0} (p : A → Bool) (x : A) (xs : List A) → p x ≡ true
    → count_by p (x ∷ xs) ≡ suc (count_by p xs)
count_by-yes p x xs e = omega (arith, count_by-cons p x xs, one_if (p x) e)

pub count_by-no : {A : Type 0} (p : A → Bool) (x : A) (xs : List A) → p x ≡ false → count_by p (x ∷ xs) ≡ count_by p xs
count_by-no p x xs e = omega (arith, count_by-cons p x xs, none_if (p x) e)

pub count_by-map : {A B : Type 0} (p : B → Bool) (f : A → B) (xs : List A)
    → count_by p (map f xs) ≡ count_by (λ x. p (f x)) xs
count_by-map p f [] = refl
count_by-map p f (x ∷ xs) =
    count_by-cons p (f x) (map f xs)
    ∙ ap (λ (n : ℕ). cond (p (f x)) 1 0 + n) (count_by-map p f xs)
    ∙ sym (count_by-cons (λ y. p (f y)) x xs)

-- terms that agree at each element have the same sum
pub sum_by-agree : {A : Type 0} (f g : A → ℕ) (xs : List A) → All (λ x. f x ≡ g x) xs → sum_by f xs ≡ sum_by g xs
sum_by-agree f g [] h = refl
sum_by-agree f g (x ∷ xs) h =
    omega (
      arith,
      sum_by-cons f x xs,
      sum_by-cons g x xs,
      All-head (λ y. f y ≡ g y) x xs h,
      sum_by-agree f g xs (All-tail (λ y. f y ≡ g y) x xs h),
    )

-- the count over lists in a row is the sum of their counts
pub count_by-flat : {A : Type 0} (p : A → Bool) (xss : List (List A))
    → count_by p (flat_map (λ xs. xs) xss) ≡ sum_by (count_by p) xss
count_by-flat p [] = refl
count_by-flat p (xs ∷ xss) =
    omega (arith, count_by-append p xs (flat_map (λ ys. ys) xss), count_by-flat p xss, sum_by-cons (count_by p) xs xss)

-- ---- an element that passes

-- the list, split at an element that passes
pub record Split {A : Type 0} (p : A → Bool) (xs : List A) : Type 0 where
  pub before : List A
  pub here : A
  pub after : List A
  pub is : xs ≡ before ++ (here ∷ after)
  pub passes : p here ≡ true

pub split : {A : Type 0} (p : A → Bool) (xs : List A) → count_by p xs ≢ 0 → Split p xs
split p [] some = absurd (some refl)
split {A = A} p (x ∷ xs) some =
    elim (cases_Bool (p x)) [
      | inl passed ↦ record { before = []; here = x; after = xs; is = refl; passes = passed }
      | inr failed ↦ later (split p xs (λ none. some (count_by-no p x xs failed ∙ none)))
    ]
  where
    later : Split p xs → Split p (x ∷ xs)
    later s = record {
      before = x ∷ s.before;
      here = s.here;
      after = s.after;
      is = ap (λ (ys : List A). x ∷ ys) s.is;
      passes = s.passes;
    }

pub count_by-split : {A : Type 0} (p : A → Bool) (before : List A) (here : A) (after : List A)
    → count_by p (before ++ (here ∷ after)) ≡ cond (p here) 1 0 + count_by p (before ++ after)
count_by-split p before here after =
    omega (arith, count_by-append p before (here ∷ after), count_by-cons p here after, count_by-append p before after)

-- ---- sums up to a relation: where each class has as many elements in both lists, so have they the same sum

module _ {A : Type 0} (P : A → Type 0) (same : A → A → Bool) (f : A → ℕ)
    (itself : (x : A) → P x → same x x ≡ true)
    (respects : (x y z : A) → P x → P y → P z → same x y ≡ true → same z x ≡ same z y)
    (keeps : (x y : A) → P x → P y → same x y ≡ true → f x ≡ f y) where
  pub same_sum : (xs ys : List A) → All P xs → All P ys
      → ((z : A) → P z → count_by (same z) xs ≡ count_by (same z) ys) → sum_by f xs ≡ sum_by f ys
  same_sum [] [] hx hy counts = refl
  same_sum [] (y ∷ ys) hx hy counts =
      let py : P y = All-head P y ys hy in
      absurd (omega (arith, counts y py, count_by-yes (same y) y ys (itself y py)))
  same_sum (x ∷ xs) ys hx hy counts =
      let px : P x = All-head P x xs hx in
      let found : count_by (same x) ys ≢ 0 =
      λ none. omega (arith, counts x px, count_by-yes (same x) x xs (itself x px)) in
      let s : Split (same x) ys = split (same x) ys found in
      let hs : All P (s.before ++ (s.here ∷ s.after)) = subst (All P) s.is hy in
      let behind : All P (s.here ∷ s.after) = All-back P s.before (s.here ∷ s.after) hs in
      let ph : P s.here = All-head P s.here s.after behind in
      let rest : All P (s.before ++ s.after) =
      All-append P s.before s.after (All-front P s.before (s.here ∷ s.after) hs) (All-tail P s.here s.after behind) in
      let fewer : (z : A) → P z → count_by (same z) xs ≡ count_by (same z) (s.before ++ s.after) =
      λ z pz. omega (
        arith,
        counts z pz,
        count_by-cons (same z) x xs,
        ap (count_by (same z)) s.is,
        count_by-split (same z) s.before s.here s.after,
        ap (λ (b : Bool). cond {A = ℕ} b 1 0) (respects x s.here z px ph pz s.passes),
      ) in
      omega (
        arith,
        sum_by-cons f x xs,
        same_sum xs (s.before ++ s.after) (All-tail P x xs hx) rest fewer,
        keeps x s.here px ph s.passes,
        ap (sum_by f) s.is,
        sum_by-append f s.before (s.here ∷ s.after),
        sum_by-cons f s.here s.after,
        sum_by-append f s.before s.after,
      )
