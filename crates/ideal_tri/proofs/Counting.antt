-- Counting labels: 3 T labels that are different and within the range are all the labels of the range.
--
-- Let there be ζ edges, with the labels from -ζ to ζ - 1. A list of such labels has as many entries as the counts of
-- all labels together. Where its entries are different, no count is above 1. So it has at most 2 ζ entries; and where
-- it has as many, each count is 1. The sides of T triangles are 3 T labels, and ζ is 3 T / 2, rounded down. They are
-- no more than 2 ζ, so that 3 T is even, and each label of the range stands there exactly once.
use Rattle.std.proofs.Common.{ℕ, ℤ, pos, negsuc, Bool, cond, List, [], ◌∷◌, ◌≡◌, ◌≢◌, ◌≤◌, ◌<◌, ◌+◌, ◌*◌, ◌/◌, suc}
use Rattle.std.proofs.Common.{zero, ◌⊎◌, inl, inr, refl, sym, ◌∙◌, ap, arith, length, get_or, ltb, length-append}
use Rattle.std.specs.List.{All, count_by}
use Rattle.std.specs.Ordering.{int_eq}
use Rattle.std.proofs.lemmas.Bool.Decides.{nat_tests}
use Rattle.std.proofs.lemmas.List.Elements.{All-head, All-tail}
use Rattle.std.proofs.lemmas.List.Sums.{sum_by-cons}
use Rattle.ideal_tri.specs.declared.tri.TheConstants.{NOWHERE, TRIANGLES}
use Rattle.ideal_tri.specs.Labels.{edge_of}
use Rattle.ideal_tri.specs.Triangulations.{labels_of, edge_count, IsLabel}
use Rattle.ideal_tri.specs.Refusals.{IsDistinct, IsOfGoodSize}
use Rattle.ideal_tri.proofs.Labels.{same_or_not, int_eq-same, int_eq-other}
use Rattle.ideal_tri.proofs.Places.{small_size}

-- how often a label stands in a list
abbrev pub count : List ℤ → ℤ → ℕ
count xs x = count_by (λ y. int_eq y x) xs

-- 1 where the two are the same, else 0
abbrev pub hit : ℤ → ℤ → ℕ
hit y x = cond (int_eq y x) 1 0

pub count-cons : (y : ℤ) (ys : List ℤ) (x : ℤ) → count (y ∷ ys) x ≡ hit y x + count ys x
count-cons y ys x = sum_by-cons (λ z. cond (int_eq z x) 1 0) y ys

pub hit_same : (x : ℤ) → hit x x ≡ 1
hit_same x = ap (λ (b : Bool). cond b 1 0) (int_eq-same x x refl)

hit_other : (y x : ℤ) → y ≢ x → hit y x ≡ 0
hit_other y x ne = ap (λ (b : Bool). cond b 1 0) (int_eq-other y x ne)

pub never : (xs : List ℤ) (x : ℤ) → ((k : ℕ) → k < length xs → get_or xs k (pos 0) ≢ x) → count xs x ≡ 0
never [] x h = refl
never (y ∷ ys) x h =
    let here : hit y x ≡ 0 = hit_other y x (h 0 (omega arith)) in
    let later : count ys x ≡ 0 = never ys x (λ k b. h (suc k) (omega arith)) in
    count-cons y ys x ∙ omega arith

-- different entries: no label stands twice
pub at_most_once : (xs : List ℤ) (x : ℤ) → IsDistinct xs → count xs x ≤ 1
at_most_once [] x d = omega arith
at_most_once (y ∷ ys) x d =
    elim (same_or_not y x) [
      | inl e ↦
          (let later : count ys x ≡ 0 =
          never ys x (λ k b same. d 0 (suc k) (omega arith) (omega arith) (e ∙ sym same)) in
          let here : hit y x ≡ 1 = ap (λ (z : ℤ). hit z x) e ∙ hit_same x in
          omega (arith, count-cons y ys x))
      | inr ne ↦
          (let later : count ys x ≤ 1 = at_most_once ys x (λ i j a b. d (suc i) (suc j) (omega arith) (omega arith)) in
          let here : hit y x ≡ 0 = hit_other y x ne in
          omega (arith, count-cons y ys x))
    ]

-- how many entries are labels of the first n edges
abbrev both : List ℤ → ℕ → ℕ
both xs zero = 0
both xs (suc n) = both xs n + (count xs (pos n) + count xs (negsuc n))

both-nil : (n : ℕ) → both [] n ≡ 0
both-nil zero = refl
both-nil (suc n) = omega (arith, both-nil n)

pub lt_or_le : (m n : ℕ) → (m < n) ⊎ (n ≤ m)
lt_or_le m n = grind arith

lt_or_same : (m n : ℕ) → m < suc n → (m < n) ⊎ (m ≡ n)
lt_or_same m n h = grind arith

other_edge : (x : ℤ) (n : ℕ) → edge_of x ≢ n → (hit x (pos n) ≡ 0) × (hit x (negsuc n) ≡ 0)
other_edge x n ne = (hit_other x (pos n) (λ e. ne (ap edge_of e)), hit_other x (negsuc n) (λ e. ne (ap edge_of e)))

this_edge : (x : ℤ) → hit x (pos (edge_of x)) + hit x (negsuc (edge_of x)) ≡ 1
this_edge (pos n) =
    let this : hit (pos n) (pos n) ≡ 1 = hit_same (pos n) in
    let other : hit (pos n) (negsuc n) ≡ 0 = hit_other (pos n) (negsuc n) (λ e. cc) in
    omega arith
this_edge (negsuc n) =
    let this : hit (negsuc n) (negsuc n) ≡ 1 = hit_same (negsuc n) in
    let other : hit (negsuc n) (pos n) ≡ 0 = hit_other (negsuc n) (pos n) (λ e. cc) in
    omega arith

both-cons_past : (x : ℤ) (xs : List ℤ) (n : ℕ) → n ≤ edge_of x → both (x ∷ xs) n ≡ both xs n
both-cons_past x xs zero h = refl
both-cons_past x xs (suc n) h =
    let before : both (x ∷ xs) n ≡ both xs n = both-cons_past x xs n (omega arith) in
    let (not_pos, not_neg) = other_edge x n (omega arith) in
    omega (arith, count-cons x xs (pos n), count-cons x xs (negsuc n))

both-cons_within : (x : ℤ) (xs : List ℤ) (n : ℕ) → edge_of x < n → both (x ∷ xs) n ≡ both xs n + 1
both-cons_within x xs zero h = omega arith
both-cons_within x xs (suc n) h =
    elim (lt_or_same (edge_of x) n h) [
      | inl below ↦
          (let before : both (x ∷ xs) n ≡ both xs n + 1 = both-cons_within x xs n below in
          let others : record { 0 : hit x (pos n) ≡ 0; 1 : hit x (negsuc n) ≡ 0 } = other_edge x n (omega arith) in
          omega (arith, count-cons x xs (pos n), count-cons x xs (negsuc n)))
      | inr e ↦
          (let before : both (x ∷ xs) n ≡ both xs n = both-cons_past x xs n (omega arith) in
          let here : hit x (pos n) + hit x (negsuc n) ≡ 1 =
          ap (λ (m : ℕ). hit x (pos m) + hit x (negsuc m)) (sym e) ∙ this_edge x in
          omega (arith, count-cons x xs (pos n), count-cons x xs (negsuc n)))
    ]

-- labels of n edges: each entry is one of them
all_counted : (xs : List ℤ) (n : ℕ) → All (λ x. edge_of x < n) xs → both xs n ≡ length xs
all_counted [] n h = both-nil n
all_counted (x ∷ xs) n h =
    let later : both xs n ≡ length xs = all_counted xs n (All-tail (λ y. edge_of y < n) x xs h) in
    let here : both (x ∷ xs) n ≡ both xs n + 1 = both-cons_within x xs n (All-head (λ y. edge_of y < n) x xs h) in
    omega arith

both-le : (xs : List ℤ) (n : ℕ) → ((x : ℤ) → count xs x ≤ 1) → both xs n ≤ 2 * n
both-le xs zero h = omega arith
both-le xs (suc n) h =
    let before : both xs n ≤ 2 * n = both-le xs n h in
    omega (arith, h (pos n), h (negsuc n))

-- different labels of n edges are no more than there are
pub no_more_than_labels : (xs : List ℤ) (n : ℕ) → All (λ x. edge_of x < n) xs → IsDistinct xs → length xs ≤ 2 * n
no_more_than_labels xs n within distinct =
    omega (arith, all_counted xs n within, both-le xs n (λ x. at_most_once xs x distinct))

-- as many as there are: each label stands once
each_once : (xs : List ℤ) (n : ℕ) → ((x : ℤ) → count xs x ≤ 1) → both xs n ≡ 2 * n → (x : ℤ) → edge_of x < n
    → count xs x ≡ 1
each_once xs zero h full x b = omega arith
each_once xs (suc n) h full x b =
    elim (lt_or_same (edge_of x) n b) [
      | inl below ↦ each_once xs n h (omega (arith, both-le xs n h, h (pos n), h (negsuc n))) x below
      | inr e ↦ last x e
    ]
  where
    last : (y : ℤ) → edge_of y ≡ n → count xs y ≡ 1
    last (pos m) e = ap (λ (k : ℕ). count xs (pos k)) e ∙ omega (arith, both-le xs n h, h (pos n), h (negsuc n))
    last (negsuc m) e = ap (λ (k : ℕ). count xs (negsuc k)) e ∙ omega (arith, both-le xs n h, h (pos n), h (negsuc n))

-- ---- the labels of triples

pub length-labels_of : (ts : List (List ℤ)) → All (λ t. length t ≡ 3) ts → length (labels_of ts) ≡ 3 * length ts
length-labels_of [] h = refl
length-labels_of (t ∷ ts) h =
    let rest : length (labels_of ts) ≡ 3 * length ts =
    length-labels_of ts (All-tail (λ (z : List ℤ). length z ≡ 3) t ts h) in
    let first : length t ≡ 3 = All-head (λ (z : List ℤ). length z ≡ 3) t ts h in
    omega (arith, length-append t (labels_of ts))

-- different labels within the range: each label of the range stands once, and there are two of each edge
pub record AreAllLabels (ts : List (List ℤ)) : Type 0 where
  pub even : 2 * edge_count ts ≡ 3 * length ts
  pub once : (x : ℤ) → IsLabel ts x → count (labels_of ts) x ≡ 1
  pub none : (x : ℤ) → edge_count ts ≤ edge_of x → count (labels_of ts) x ≡ 0

pub all_labels : (ts : List (List ℤ)) → All (λ t. length t ≡ 3) ts → All (IsLabel ts) (labels_of ts)
    → IsDistinct (labels_of ts) → AreAllLabels ts
all_labels ts three within distinct =
    let long : length (labels_of ts) ≡ 3 * length ts = length-labels_of ts three in
    let all : both (labels_of ts) (edge_count ts) ≡ length (labels_of ts) =
    all_counted (labels_of ts) (edge_count ts) within in
    let few : (x : ℤ) → count (labels_of ts) x ≤ 1 = λ x. at_most_once (labels_of ts) x distinct in
    let least : both (labels_of ts) (edge_count ts) ≤ 2 * edge_count ts = both-le (labels_of ts) (edge_count ts) few in
    let halves : 2 * (3 * length ts / 2) ≤ 3 * length ts = omega arith in
    record {
      even = omega arith;
      once = each_once (labels_of ts) (edge_count ts) few (omega arith);
      none = λ x b. never (labels_of ts) x (λ k below same. outside x b k below same);
    }
  where
    outside : (x : ℤ) → edge_count ts ≤ edge_of x → (k : ℕ) → k < length (labels_of ts)
        → get_or (labels_of ts) k (pos 0) ≢ x
    outside x b k below same =
        let in_range : edge_of (get_or (labels_of ts) k (pos 0)) < edge_count ts = within k (pos 0) below in
        let e : edge_of (get_or (labels_of ts) k (pos 0)) ≡ edge_of x = ap edge_of same in
        omega arith

pub label_counts : (ts : List (List ℤ)) → AreAllLabels ts → (x : ℤ)
    → count (labels_of ts) x ≡ cond (ltb (edge_of x) (edge_count ts)) 1 0
label_counts ts h x =
    elim (lt_or_le (edge_of x) (edge_count ts)) [
      | inl b ↦ (let one : count (labels_of ts) x ≡ 1 = h.once x b in grind (arith, nat_tests))
      | inr b ↦ (let none : count (labels_of ts) x ≡ 0 = h.none x b in grind (arith, nat_tests))
    ]

pub below_255 : (ts : List (List ℤ)) (xs : List ℤ) (k : ℕ) → xs ≡ labels_of ts → IsOfGoodSize ts
    → All (λ t. length t ≡ 3) ts → k < length xs → k < NOWHERE
below_255 ts xs k e size three b =
    let small : length ts ≤ TRIANGLES = small_size ts size in
    let long : length xs ≡ 3 * length ts = ap length e ∙ length-labels_of ts three in
    omega arith
