-- A row of positive numbers counts the passes of a closed walk with a positive sum, since the walk passes some branch.
-- So the sum can't stay under a matrix by which it grows.
use Rattle.std.proofs.Common.{◌≡◌, ◌<◌, ◌≤◌, ◌+◌, ◌*◌, ◌^◌, ℕ, suc, ℤ, Bool, List, [], ◌∷◌, ◌++◌, cond, length}
use Rattle.std.proofs.Common.{map, nat_eq, slice_index, refl, sym, ◌∙◌, ap, subst, arith, length-append, mul-pos}
use Rattle.std.proofs.Common.{mul-lt-mul_of_pos_right}
use Rattle.std.proofs.Math.Nat.{pow-lt-pow_left}
use Rattle.std.proofs.lemmas.Bool.{eq-eqb}
use Rattle.std.proofs.lemmas.List.Sums.{sum_by-cons}
use Rattle.train_track.specs.Passes.{Pass}
use Rattle.transition_matrix.specs.Bounds.{paired, IsBounds}
use Rattle.transition_matrix.specs.Matrices.{Square, sum_below}
use Rattle.transition_matrix.specs.MatrixLaws.{SumLaws}
use Rattle.carry_map.specs.Iterates.{ArePassesRound, CountsPasses, passed}

-- ---- some branch is passed

passed_first : (p : Pass) (passes : List Pass) → 0 < passed (p ∷ passes) p.branch
passed_first p passes =
    subst (λ (n : ℕ). 0 < n)
    (sym (sum_by-cons (λ (j : ℕ). cond (nat_eq p.branch j) 1 0) p.branch (map (λ (q : Pass). q.branch) passes)
    ∙ ap (λ (b : Bool). cond b 1 0 + passed passes p.branch) (eq-eqb p.branch p.branch refl)))
    (some_more (passed passes p.branch))
  where
    some_more : (n : ℕ) → 0 < 1 + n
    some_more n = omega arith

first_pass : (branches : List (List ℤ)) (passes : List Pass) (turned : List ℤ)
    → ArePassesRound branches passes turned → (i : ℕ) × (i < length branches) × (0 < passed passes i)
first_pass branches passes [] r = absurd (omega (arith, r.some))
first_pass branches [] (x ∷ w) r =
    absurd (let long : length (w ++ (x ∷ [])) ≡ 0 = ap length r.passed in
    omega (arith, length-append w (x ∷ [])))
first_pass branches (p ∷ passes) (x ∷ w) r =
    let (u, v, within, is, parts, others) = r.passed in (p.branch, within, passed_first p passes)

some_counted : (branches : List (List ℤ)) (w : List ℤ) (y : ℕ → ℕ) → CountsPasses branches w y
    → (i : ℕ) × (i < length branches) × (0 < y i)
some_counted branches w y h =
    let (i, within, some) = first_pass branches h.passes h.turned h.round in (
      i,
      within,
      subst (λ (n : ℕ). 0 < n) (sym (h.counts i within)) some,
    )

-- ---- the sum of the products is positive

module _ (sums : SumLaws) (m : Square) (u : ℕ → ℕ) (y : ℕ → ℕ) where
  positive_pair : (i : ℕ) → i < m.size → 0 < u i → 0 < y i → 0 < paired m u y
  positive_pair i within left right =
      let part : sum_below (suc i) (λ k. u k * y k) ≤ paired m u y =
      sums.beginning (suc i) m.size (λ k. u k * y k) (omega arith) in
      let term : 0 < u i * y i = mul-pos left right in
      omega arith

  same_pair : (z : ℕ → ℕ) → ((i : ℕ) → i < m.size → y i ≡ z i) → paired m u y ≡ paired m u z
  same_pair z same =
      sums.same m.size (λ k. u k * y k) (λ k. u k * z k)
      (λ k below. ap (λ (n : ℕ). u k * n) (same k below))

-- ---- it doesn't stay

grown : (a b n s : ℕ) → b < a → 0 < n → 0 < s → a ^ n * s ≤ b ^ n * s → ⊥
grown a b n s above some positive held =
    let less : b ^ n * s < a ^ n * s =
    mul-lt-mul_of_pos_right (pow-lt-pow_left above (λ none. omega arith)) positive in
    omega arith

pub no_return : SumLaws → (branches : List (List ℤ)) (m : Square) (u : List ℕ) (low high : ℕ × ℕ) (w : List ℤ)
    (n : ℕ) (y z : ℕ → ℕ) → m.size ≡ length branches → IsBounds m u low high → CountsPasses branches w y → 0 < n
    → ((i : ℕ) → i < length branches → y i ≡ z i)
    → low.0 ^ n * paired m (slice_index u) y ≤ low.1 ^ n * paired m (slice_index u) z → ⊥
no_return sums branches m u low high w n y z size bounds counted some same held =
    let (i, within, passed_here) = some_counted branches w y counted in
    let inside : i < m.size = omega (arith, size) in
    let positive : 0 < paired m (slice_index u) y =
    positive_pair sums m (slice_index u) y i inside (bounds.positive i inside) passed_here in
    let kept : paired m (slice_index u) y ≡ paired m (slice_index u) z =
    same_pair sums m (slice_index u) y z (λ k below. same k (omega (arith, size))) in
    grown low.0 low.1 n (paired m (slice_index u) y) bounds.grows some positive
    (subst (λ (s : ℕ). low.0 ^ n * paired m (slice_index u) y ≤ low.1 ^ n * s) (sym kept) held)
