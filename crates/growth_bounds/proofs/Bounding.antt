-- The least and the greatest ratio of growth are bounds.
--
-- Let u be a row that grows and v = u M the next one, and p / q = v k / u k the least ratio of their entries. Then
-- p > q, since the entry k grows; and v k * u i <= v i * u k says that p * u i <= q * v i for each i: the lower bound.
-- The greatest ratio is the least of the ratios u i / v i, turned round, and gives the upper one. The answer keeps the
-- row and the ratios of two vectors; these hold the rows that were found.
use Rattle.std.proofs.Common.{◌≡◌, ◌<◌, ◌*◌, ◌++◌, ℕ, List, length, take, drop, slice_index, sym, ◌∙◌}
use Rattle.std.proofs.Common.{ap, subst, arith}
use native.Mathlib.Nat.{mul_comm}
use Rattle.std.proofs.Math.Seq.{take-append_seam}
use Rattle.transition_matrix.specs.Matrices.{Square}
use Rattle.transition_matrix.specs.Bounds.{times, IsBounds}
use Rattle.growth_bounds.specs.declared.rule.GrowthBounds.{GrowthBounds}
use Rattle.growth_bounds.specs.Rule.{IsLeastRatio, HasRatios, turned}
use Rattle.growth_bounds.specs.inside.Reached.{GrowsWith, IsFound}

-- what is read from a vector whose items were all written anew
pub written : (n : ℕ) (new items read : List ℕ) → length new ≡ n → read ≡ take n (new ++ drop (length new) items)
    → read ≡ new
written n new items read size is =
    is ∙ ap (λ (m : ℕ). take m (new ++ drop (length new) items)) (sym size)
    ∙ take-append_seam new (drop (length new) items)

-- ratios of the same numbers
pub same_ratio : (n k : ℕ) (v u w x : ℕ → ℕ) (pair : ℕ × ℕ) → k ≡ n → ((i : ℕ) → i < n → v i ≡ w i) → ((i : ℕ)
    → i < n → u i ≡ x i)
    → IsLeastRatio k v u pair → IsLeastRatio n w x pair
same_ratio n k v u w x pair size same_v same_u ratio =
    let p : ℕ = ratio.place in
    let within : p < n = let h = ratio.within in omega arith in
    record {
      place = p;
      within = within;
      above = ratio.above ∙ same_v p within;
      below = ratio.below ∙ same_u p within;
      least = λ i low.
          let left : v p * u i ≡ w p * x i = ap (λ (a : ℕ). a * u i) (same_v p within)
          ∙ ap (λ (b : ℕ). w p * b) (same_u i low) in
          let right : v i * u p ≡ w i * x p = ap (λ (a : ℕ). a * u p) (same_v i low)
          ∙ ap (λ (b : ℕ). w i * b) (same_u p within) in
          let h = ratio.least i (omega arith) in
          omega (arith, left, right, h);
      first = λ i low.
          let inside : i < n = omega arith in
          let left : v p * u i ≡ w p * x i = ap (λ (a : ℕ). a * u i) (same_v p within)
          ∙ ap (λ (b : ℕ). w p * b) (same_u i inside) in
          let right : v i * u p ≡ w i * x p = ap (λ (a : ℕ). a * u p) (same_v i inside)
          ∙ ap (λ (b : ℕ). w i * b) (same_u p within) in
          let h = ratio.first i low in
          omega (arith, left, right, h);
    }

pub bounding : (m : Square) (j : ℕ) (u v : List ℕ) (low high : ℕ × ℕ) → GrowsWith m j u v
    → IsLeastRatio (length v) (slice_index v) (slice_index u) low
    → IsLeastRatio (length v) (slice_index u) (slice_index v) (turned high)
    → IsBounds m u low high
bounding m j u v low high rows least most =
    let p : ℕ = least.place in
    let q : ℕ = most.place in
    let same : length v ≡ m.size = rows.next.size in
    record {
      one_per_row = rows.row.size;
      positive = λ i within. (rows.growing i (omega (arith, rows.row.size))).0;
      grows =
          let h = rows.growing p (let k = least.within in omega (arith, same, rows.row.size)) in
          omega (arith, h.1, least.above, least.below);
      at_least = λ i within.
          let h = least.least i (omega (arith, same)) in
          let left : low.0 * slice_index u i ≡ slice_index v p * slice_index u i = ap (λ (a : ℕ). a * slice_index u i)
          least.above in
          let right : low.1 * times m (slice_index u) i ≡ slice_index v i * slice_index u p =
          ap (λ (a : ℕ). a * times m (slice_index u) i) least.below
          ∙ ap (λ (a : ℕ). slice_index u p * a) (rows.product i within)
          ∙ mul_comm (slice_index u p) (slice_index v i) in
          omega (arith, h, left, right);
      at_most = λ i within.
          let h = most.least i (omega (arith, same)) in
          let left : high.1 * times m (slice_index u) i ≡ slice_index u q * slice_index v i =
          ap (λ (a : ℕ). a * times m (slice_index u) i) most.above
          ∙ ap (λ (a : ℕ). slice_index u q * a) (rows.product i within) in
          let right : high.0 * slice_index u i ≡ slice_index u i * slice_index v q =
          ap (λ (a : ℕ). a * slice_index u i) most.below ∙ mul_comm (slice_index v q) (slice_index u i) in
          omega (arith, h, left, right);
    }

-- ---- what the vectors hold is what was found

-- the answer, made of the vectors us and vs, for the rows u and v that they hold
pub record IsMadeOf (us vs : List ℕ) (b : GrowthBounds) : Type 0 where
  pub row : b.u.items ≡ us
  pub low : IsLeastRatio (length vs) (slice_index vs) (slice_index us) b.low
  pub high : IsLeastRatio (length vs) (slice_index us) (slice_index vs) (turned b.high)

pub made_of : (u v us vs : List ℕ) (b : GrowthBounds) → us ≡ u → vs ≡ v → IsMadeOf us vs b → IsMadeOf u v b
made_of u v us vs b same_u same_v made =
    let P : List ℕ → Type 0 = λ a. IsMadeOf a v b in
    let Q : List ℕ → Type 0 = λ a. IsMadeOf us a b in
    subst P same_u (subst Q same_v made)

pub ruled : (m : Square) (IsChosen : ℕ → Type 0) (u v : List ℕ) (b : GrowthBounds) → IsFound m IsChosen u v
    → IsMadeOf u v b → HasRatios m IsChosen b
ruled m IsChosen u v b found made =
    let rows = found.rows in
    record {
      number = found.number;
      first = found.chosen;
      size = ap length made.row ∙ rows.row.size;
      row_is = λ i within. ap (λ (xs : List ℕ). slice_index xs i) made.row ∙ rows.row.is i within;
      low = same_ratio m.size (length v) (slice_index v) (slice_index u) _ _ b.low rows.next.size rows.next.is
          rows.row.is made.low;
      high = same_ratio m.size (length v) (slice_index u) (slice_index v) _ _ (turned b.high) rows.next.size
          rows.row.is rows.next.is made.high;
    }

pub bounded : (m : Square) (IsChosen : ℕ → Type 0) (u v : List ℕ) (b : GrowthBounds) → IsFound m IsChosen u v
    → IsMadeOf u v b → IsBounds m b.u.items b.low b.high
bounded m IsChosen u v b found made =
    let P : List ℕ → Type 0 = λ xs. IsBounds m xs b.low b.high in
    subst P (sym made.row) (bounding m found.number u v b.low b.high found.rows made.low made.high)
