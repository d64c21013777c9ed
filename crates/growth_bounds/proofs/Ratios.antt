-- The least of several ratios, kept as the ratios are read one after another.
use Rattle.std.proofs.Common.{◌≡◌, ◌<◌, ◌≤◌, ◌+◌, ◌*◌, inl, inr, ℕ, refl, sym, subst, arith}
use Rattle.std.proofs.lemmas.Bool.{cases_eq}
use Rattle.growth_bounds.specs.Rule.{IsLeastRatio}
use Rattle.growth_bounds.proofs.Products.{ratio_lt-le}

pub first_ratio : (v u : ℕ → ℕ) → IsLeastRatio 1 v u (v 0, u 0)
first_ratio v u = record {
  place = 0;
  within = omega arith;
  above = refl;
  below = refl;
  least = λ k low. let e : k ≡ 0 = omega arith in
      let P : ℕ → Type 0 = λ i. v 0 * u i ≤ v i * u 0 in subst P (sym e) (omega arith);
  first = λ k low. absurd (omega arith);
}

-- a smaller ratio takes its place
pub smaller_ratio : (n : ℕ) (v u : ℕ → ℕ) (pair : ℕ × ℕ) → IsLeastRatio n v u pair → ((k : ℕ) → k < n → 0 < u k)
    → v n * pair.1 < pair.0 * u n → IsLeastRatio (n + 1) v u (v n, u n)
smaller_ratio n v u pair before positive less =
    let p : ℕ = before.place in
    let P : ℕ → Type 0 = λ b. v n * b < pair.0 * u n in
    let Q : ℕ → Type 0 = λ a. v n * u p < a * u n in
    let here : v n * u p < v p * u n = subst Q before.above (subst P before.below less) in
    let strictly : (k : ℕ) → k < n → v n * u k < v k * u n =
    λ k low. ratio_lt-le (v n) (u n) (v p) (u p) (v k) (u k) (positive k low) here (before.least k low) in
    record {
      place = n;
      within = omega arith;
      above = refl;
      below = refl;
      least = λ k low. elim (cases_eq k n) [
        | inl e ↦ let R : ℕ → Type 0 = λ i. v n * u i ≤ v i * u n in subst R (sym e) (omega arith)
        | inr apart ↦ let h = strictly k (omega arith) in omega arith
      ];
      first = strictly;
    }

-- any other leaves it
pub kept_ratio : (n : ℕ) (v u : ℕ → ℕ) (pair : ℕ × ℕ) → IsLeastRatio n v u pair
    → pair.0 * u n ≤ v n * pair.1 → IsLeastRatio (n + 1) v u pair
kept_ratio n v u pair before most =
    let p : ℕ = before.place in
    let P : ℕ → Type 0 = λ a. a * u n ≤ v n * pair.1 in
    let Q : ℕ → Type 0 = λ b. v p * u n ≤ v n * b in
    let here : v p * u n ≤ v n * u p = subst Q before.below (subst P before.above most) in
    record {
      place = p;
      within = let h = before.within in omega arith;
      above = before.above;
      below = before.below;
      least = λ k low. elim (cases_eq k n) [
        | inl e ↦ let R : ℕ → Type 0 = λ i. v p * u i ≤ v i * u p in subst R (sym e) here
        | inr apart ↦ before.least k (omega arith)
      ];
      first = before.first;
    }
