-- A graph with m edges and C parts has at most m + C vertices.
--
-- Each vertex has a name, at first its own. Along each edge the name of one end is replaced everywhere by the name of
-- the other. Vertices with one name keep one name, and the two ends of each edge have one name from then on. A step
-- takes its own name from one vertex at most. So at least as many vertices as there are, less m, still have their own
-- name at the end. Where the edges join all vertices of a part, these have one name, which is that of at most one of
-- them. So at most C vertices still have their own name.
use Rattle.std.proofs.Common.{ℕ, zero, suc, ℤ, Bool, true, false, cond, List, [], ◌∷◌, ◌≡◌, ◌≢◌, ◌≤◌, ◌<◌, ◌+◌, ◌⊎◌}
use Rattle.std.proofs.Common.{inl, inr, refl, sym, ◌∙◌, ap, arith, length, get_or}
use Rattle.std.specs.List.{All, count_by}
use Rattle.std.specs.Ordering.{int_eq}
use Rattle.std.proofs.lemmas.Bool.{cases_lt}
use Rattle.std.proofs.lemmas.List.Elements.{All-head, All-tail}
use Rattle.std.proofs.lemmas.List.Sums.{sum_by-cons}
use Rattle.ideal_tri.proofs.Labels.{same_or_not, int_eq-same, int_eq-other}
use Rattle.ideal_tri.proofs.Triangles.{times, times-cons}
use Rattle.ideal_tri.proofs.Numbering.{passing, passing-suc}

-- the name of a becomes that of b
abbrev pub merge : (ℤ → ℤ) → ℤ → ℤ → ℤ → ℤ
merge f a b x = cond (int_eq (f x) (f a)) (f b) (f x)

-- the two have one name afterwards
pub merge_joins : (f : ℤ → ℤ) (a b : ℤ) → merge f a b a ≡ merge f a b b
merge_joins f a b =
    ap (λ (t : Bool). cond t (f b) (f a)) (int_eq-same (f a) (f a) refl) ∙ sym (other (same_or_not (f b) (f a)))
  where
    other : (f b ≡ f a) ⊎ (f b ≢ f a) → merge f a b b ≡ f b
    other (inl e) = ap (λ (t : Bool). cond t (f b) (f b)) (int_eq-same (f b) (f a) e)
    other (inr ne) = ap (λ (t : Bool). cond t (f b) (f b)) (int_eq-other (f b) (f a) ne)

-- and those of one name keep one name
pub merge_keeps : (f : ℤ → ℤ) (a b x y : ℤ) → f x ≡ f y → merge f a b x ≡ merge f a b y
merge_keeps f a b x y e = ap (λ (z : ℤ). cond (int_eq z (f a)) (f b) z) e

-- a name of its own other than a's stays
merge_own : (f : ℤ → ℤ) (a b x : ℤ) → f x ≡ x → x ≢ f a → merge f a b x ≡ x
merge_own f a b x e ne =
    ap (λ (t : Bool). cond t (f b) (f x)) (int_eq-other (f x) (f a) (λ d. ne (sym e ∙ d))) ∙ e

-- how many of the list are their own names
abbrev pub own : (ℤ → ℤ) → List ℤ → ℕ
own f xs = count_by (λ x. int_eq (f x) x) xs

-- 1 where x is its own name
abbrev own_at : (ℤ → ℤ) → ℤ → ℕ
own_at f x = cond (int_eq (f x) x) 1 0

own-cons : (f : ℤ → ℤ) (x : ℤ) (xs : List ℤ) → own f (x ∷ xs) ≡ own_at f x + own f xs
own-cons f x xs = sum_by-cons (own_at f) x xs

own_at_yes : (f : ℤ → ℤ) (x : ℤ) → f x ≡ x → own_at f x ≡ 1
own_at_yes f x e = ap (λ (t : Bool). cond t 1 0) (int_eq-same (f x) x e)

own_at_no : (f : ℤ → ℤ) (x : ℤ) → f x ≢ x → own_at f x ≡ 0
own_at_no f x ne = ap (λ (t : Bool). cond t 1 0) (int_eq-other (f x) x ne)

own_at-le : (f : ℤ → ℤ) (x : ℤ) → own_at f x ≤ 1
own_at-le f x = go (int_eq (f x) x)
  where
    go : (t : Bool) → ◌≤◌ (cond t 1 0) 1
    go true = omega arith
    go false = omega arith

-- 1 where the two are the same
abbrev same_at : ℤ → ℤ → ℕ
same_at c x = cond (int_eq x c) 1 0

same_at_yes : (c x : ℤ) → x ≡ c → same_at c x ≡ 1
same_at_yes c x e = ap (λ (t : Bool). cond t 1 0) (int_eq-same x c e)

-- a merge loses one name at most
merge_loses_at : (f : ℤ → ℤ) (a b x : ℤ) → own_at f x ≤ own_at (merge f a b) x + same_at (f a) x
merge_loses_at f a b x =
    elim (same_or_not (f x) x) [
      | inr ne ↦ omega (arith, own_at_no f x ne)
      | inl e ↦
          elim (same_or_not x (f a)) [
            | inl d ↦ omega (arith, own_at-le f x, same_at_yes (f a) x d)
            | inr nd ↦ omega (arith, own_at-le f x, own_at_yes (merge f a b) x (merge_own f a b x e nd))
          ]
    ]

merge_loses : (f : ℤ → ℤ) (a b : ℤ) (xs : List ℤ) → own f xs ≤ own (merge f a b) xs + times (f a) xs
merge_loses f a b [] = omega arith
merge_loses f a b (x ∷ xs) =
    let here : own_at f x ≤ own_at (merge f a b) x + same_at (f a) x = merge_loses_at f a b x in
    let later : own f xs ≤ own (merge f a b) xs + times (f a) xs = merge_loses f a b xs in
    omega (arith, own-cons f x xs, own-cons (merge f a b) x xs, times-cons (f a) x xs)

-- ---- parts of one name each: numbers below n that pass a test number the parts, and h gives their names

-- how often the list has one of the names
abbrev named : (ℕ → Bool) → (ℕ → ℤ) → ℕ → List ℤ → ℕ
named is h zero xs = 0
named is h (suc k) xs = named is h k xs + cond (is k) (times (h k) xs) 0

-- the same for one entry
abbrev named_at : (ℕ → Bool) → (ℕ → ℤ) → ℕ → ℤ → ℕ
named_at is h zero x = 0
named_at is h (suc k) x = named_at is h k x + cond (is k) (same_at (h k) x) 0

named-nil : (is : ℕ → Bool) (h : ℕ → ℤ) (n : ℕ) → named is h n [] ≡ 0
named-nil is h zero = refl
named-nil is h (suc k) = omega (arith, named-nil is h k, none (is k))
  where
    none : (b : Bool) → ◌≡◌ {A = ℕ} (cond b (times (h k) []) 0) 0
    none true = refl
    none false = refl

named-cons : (is : ℕ → Bool) (h : ℕ → ℤ) (n : ℕ) (x : ℤ) (xs : List ℤ)
    → named is h n (x ∷ xs) ≡ named_at is h n x + named is h n xs
named-cons is h zero x xs = omega arith
named-cons is h (suc k) x xs = omega (arith, named-cons is h k x xs, here (is k))
  where
    here : (b : Bool) → cond b (times (h k) (x ∷ xs)) 0 ≡ cond b (same_at (h k) x) 0 + cond b (times (h k) xs) 0
    here true = times-cons (h k) x xs
    here false = omega arith

-- each name once at most
named_few : (is : ℕ → Bool) (h : ℕ → ℤ) (n : ℕ) (xs : List ℤ) → ((c : ℤ) → times c xs ≤ 1)
    → named is h n xs ≤ passing is n
named_few is h zero xs once = omega arith
named_few is h (suc k) xs once = omega (arith, named_few is h k xs once, passing-suc is k, here (is k))
  where
    here : (b : Bool) → cond b (times (h k) xs) 0 ≤ cond b 1 0
    here true = once (h k)
    here false = omega arith

named_here : (is : ℕ → Bool) (h : ℕ → ℤ) (n k : ℕ) (x : ℤ) → k < n → is k ≡ true → x ≡ h k → 1 ≤ named_at is h n x
named_here is h zero k x b e d = absurd (omega arith)
named_here is h (suc n) k x b e d =
    elim (cases_lt k n) [
      | inl c ↦ omega (arith, named_here is h n k x c e d)
      | inr c ↦
          (let same : k ≡ n = omega arith in
          let one : cond (is k) (same_at (h k) x) 0 ≡ 1 =
          ap (λ (t : Bool). cond t (same_at (h k) x) 0) e ∙ same_at_yes (h k) x d in
          omega (arith, ap (λ (i : ℕ). cond (is i) (same_at (h i) x) 0) same))
    ]

-- the part of x is numbered g x
pub record IsNamed (f : ℤ → ℤ) (is : ℕ → Bool) (h : ℕ → ℤ) (n : ℕ) (g : ℤ → ℕ) (x : ℤ) : Type 0 where
  pub below : g x < n
  pub numbered : is (g x) ≡ true
  pub name : f x ≡ h (g x)

-- if each part has one name, at most one of each is its own name
parts_own : (f : ℤ → ℤ) (is : ℕ → Bool) (h : ℕ → ℤ) (n : ℕ) (g : ℤ → ℕ) (xs : List ℤ) → All (IsNamed f is h n g) xs
    → own f xs ≤ named is h n xs
parts_own f is h n g [] all = omega arith
parts_own f is h n g (x ∷ xs) all =
    let later : own f xs ≤ named is h n xs = parts_own f is h n g xs (All-tail (IsNamed f is h n g) x xs all) in
    let here : IsNamed f is h n g x = All-head (IsNamed f is h n g) x xs all in
    elim (same_or_not (f x) x) [
      | inr ne ↦ omega (arith, own-cons f x xs, named-cons is h n x xs, own_at_no f x ne)
      | inl e ↦
          omega (
            arith,
            own-cons f x xs,
            named-cons is h n x xs,
            own_at-le f x,
            named_here is h n (g x) x here.below
                here.numbered (sym e ∙ here.name),
          )
    ]

-- ---- along a list of edges, each named by one end; p gives the other

abbrev pub merged : (ℤ → ℤ) → (ℤ → ℤ) → List ℤ → ℤ → ℤ
merged p f [] x = f x
merged p f (y ∷ edges) x = merged p (merge f y (p y)) edges x

pub merged_keeps : (p f : ℤ → ℤ) (edges : List ℤ) (x y : ℤ) → f x ≡ f y → merged p f edges x ≡ merged p f edges y
merged_keeps p f [] x y e = e
merged_keeps p f (z ∷ edges) x y e = merged_keeps p (merge f z (p z)) edges x y (merge_keeps f z (p z) x y e)

pub merged_joins : (p f : ℤ → ℤ) (edges : List ℤ) (k : ℕ) (d : ℤ) → k < length edges
    → merged p f edges (get_or edges k d) ≡ merged p f edges (p (get_or edges k d))
merged_joins p f [] k d b = absurd (omega arith)
merged_joins p f (z ∷ edges) zero d b = merged_keeps p (merge f z (p z)) edges z (p z) (merge_joins f z (p z))
merged_joins p f (z ∷ edges) (suc k) d b = merged_joins p (merge f z (p z)) edges k d (omega arith)

merged_loses : (p f : ℤ → ℤ) (edges xs : List ℤ) → ((c : ℤ) → times c xs ≤ 1)
    → own f xs ≤ own (merged p f edges) xs + length edges
merged_loses p f [] xs once = omega arith
merged_loses p f (z ∷ edges) xs once =
    let first : own f xs ≤ own (merge f z (p z)) xs + times (f z) xs = merge_loses f z (p z) xs in
    let later : own (merge f z (p z)) xs ≤ own (merged p (merge f z (p z)) edges) xs + length edges =
    merged_loses p (merge f z (p z)) edges xs once in
    omega (arith, once (f z))

-- where the edges join each part, there are at most as many names more than edges as there are parts
pub names_of_parts : (p f : ℤ → ℤ) (edges xs : List ℤ) (is : ℕ → Bool) (h : ℕ → ℤ) (n : ℕ) (g : ℤ → ℕ)
    → ((d : ℤ) → times d xs ≤ 1)
    → All (IsNamed (merged p f edges) is h n g) xs → own f xs ≤ length edges + passing is n
names_of_parts p f edges xs is h n g once all =
    omega (
      arith,
      merged_loses p f edges xs once,
      parts_own (merged p f edges) is h n g xs all,
      named_few is h n xs
          once,
    )
