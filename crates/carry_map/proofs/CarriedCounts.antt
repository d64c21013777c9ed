-- How often the path of passes passes each branch: as the matrix counts.
--
-- Passes of lists that are joined add up, and turning passes round keeps how often each branch is passed. So a pass of
-- branch j, in either direction, adds column j of the matrix, which is the matrix times the count of that one pass; and
-- the matrix times a sum of columns is the sum of the matrix times each.
use Rattle.std.proofs.Common.{ℕ, zero, suc, ℤ, Bool, true, false, cond, List, [], ◌∷◌, ◌≡◌, ◌≢◌, ◌<◌, ◌≤◌, ◌+◌}
use Rattle.std.proofs.Common.{◌*◌, inl, inr, refl, sym, ◌∙◌, ap, arith, length, nat_eq}
use Rattle.std.proofs.Common.{if◌then◌else◌}
use Rattle.std.specs.List.{All, flat_map}
use Rattle.std.proofs.lemmas.Bool.{cases_lt, eq-eqb, ne_eqb}
use Rattle.std.proofs.lemmas.List.Elements.{All-head, All-tail, All-nil, All-cons}
use Rattle.ideal_tri.specs.Words.{last_of}
use Rattle.transition_matrix.specs.Matrices.{Square, entry, sum_below}
use Rattle.transition_matrix.specs.Bounds.{applied}
use Rattle.train_track.specs.Passes.{Pass, AreGlued}
use Rattle.carry_map.specs.Iterates.{passed}
use Rattle.carry_map.proofs.PassFacts.{turned_passes}
use Rattle.carry_map.proofs.PassCounts.{passed-append, passed-cons, passed-turned}
use Rattle.carry_map.proofs.CarriedBranches.{directed}

-- ---- one pass

pub passed-directed : (p : Pass) (passes : List Pass) (i : ℕ) → passed (directed p passes) i ≡ passed passes i
passed-directed p passes i = go p.forwards
  where
    go : (b : Bool) → passed (if b then passes else turned_passes passes) i ≡ passed passes i
    go true = refl
    go false = passed-turned passes i

-- ---- sums in which one count is higher by one

product_more : (a b : ℕ) → a * (1 + b) ≡ a + a * b
product_more a b = omega arith

-- y' is y, but one higher at k
module _ (k : ℕ) (e y y' : ℕ → ℕ) (more : (j : ℕ) → y' j ≡ cond (nat_eq j k) 1 0 + y j) where
  at_other : (j : ℕ) → j ≢ k → e j * y' j ≡ e j * y j
  at_other j other =
      ap (λ (n : ℕ). e j * n) (more j ∙ ap (λ (b : Bool). cond b 1 0 + y j) (ne_eqb j k other) ∙ omega arith)

  at_same : (j : ℕ) → j ≡ k → e j * y' j ≡ e k + e j * y j
  at_same j same =
      ap (λ (n : ℕ). e j * n) (more j ∙ ap (λ (b : Bool). cond b 1 0 + y j) (eq-eqb j k same))
      ∙ product_more (e j) (y j)
      ∙ ap (λ (n : ℕ). e n + e j * y j) same

  sum_before : (n : ℕ) → n ≤ k → sum_below n (λ j. e j * y' j) ≡ sum_below n (λ j. e j * y j)
  sum_before zero over = refl
  sum_before (suc n) over =
      let before : sum_below n (λ j. e j * y' j) ≡ sum_below n (λ j. e j * y j) = sum_before n (omega arith) in
      let here : e n * y' n ≡ e n * y n = at_other n (λ z. omega arith) in
      omega arith

  pub sum_one_more : (n : ℕ) → k < n → sum_below n (λ j. e j * y' j) ≡ e k + sum_below n (λ j. e j * y j)
  sum_one_more zero within = absurd (omega arith)
  sum_one_more (suc n) within =
      elim (cases_lt k n) [
        | inl below ↦
            let before : sum_below n (λ j. e j * y' j) ≡ e k + sum_below n (λ j. e j * y j) = sum_one_more n below in
            let here : e n * y' n ≡ e n * y n = at_other n (λ z. omega arith) in
            omega arith
        | inr over ↦
            let before : sum_below n (λ j. e j * y' j) ≡ sum_below n (λ j. e j * y j) = sum_before n over in
            let here : e n * y' n ≡ e k + e n * y n = at_same n (omega arith) in
            omega arith
      ]

sum_none : (n : ℕ) (e : ℕ → ℕ) → sum_below n (λ j. e j * 0) ≡ 0
sum_none zero e = refl
sum_none (suc n) e = let before : sum_below n (λ j. e j * 0) ≡ 0 = sum_none n e in omega arith

-- ---- the matrix times the counts

-- all passes are of branches below n
pub glued_within : (branches : List (List ℤ)) (x : ℤ) (passes : List Pass) (w : List ℤ) → AreGlued branches x passes w
    → All (λ p. p.branch < length branches) passes
glued_within branches x [] w glued = All-nil (λ (p : Pass). p.branch < length branches)
glued_within branches x (p ∷ passes) w (u, v, within, is, parts, rest) =
    All-cons (λ (p : Pass). p.branch < length branches) p passes within
    (glued_within branches (last_of x u) passes v rest)

applied-none : (m : Square) (i : ℕ) → applied m (passed []) i ≡ 0
applied-none m i = sum_none m.size (entry m i)

applied-cons : (m : Square) (p : Pass) (passes : List Pass) (i : ℕ) → p.branch < m.size
    → applied m (passed (p ∷ passes)) i ≡ entry m i p.branch + applied m (passed passes) i
applied-cons m p passes i within =
    sum_one_more p.branch (entry m i) (passed passes) (passed (p ∷ passes)) (passed-cons p passes) m.size within

-- where the path of each pass passes i as the matrix says, so do the paths of several
pub counted_onward : (m : Square) (onward : Pass → List Pass) (i : ℕ)
    → ((p : Pass) → p.branch < m.size → passed (onward p) i ≡ entry m i p.branch) → (passes : List Pass)
    → All (λ p. p.branch < m.size) passes → passed (flat_map onward passes) i ≡ applied m (passed passes) i
counted_onward m onward i each [] within = sym (applied-none m i)
counted_onward m onward i each (p ∷ passes) within =
    let here : p.branch < m.size = All-head (λ (p : Pass). p.branch < m.size) p passes within in
    let rest : passed (flat_map onward passes) i ≡ applied m (passed passes) i =
    counted_onward m onward i each passes (All-tail (λ (p : Pass). p.branch < m.size) p passes within) in
    passed-append (onward p) (flat_map onward passes) i
    ∙ ap (λ (n : ℕ). n + passed (flat_map onward passes) i) (each p here)
    ∙ ap (λ (n : ℕ). entry m i p.branch + n) rest
    ∙ sym (applied-cons m p passes i here)
