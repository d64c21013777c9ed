-- How often the curves about the light edges cross each edge, put into a list edge by edge.
use Rattle.std.proofs.Common.{◌<◌, ◌≤◌, ◌+◌, ℕ, List, inl, inr, length, set, take, sym, ◌∙◌, subst, arith}
use Rattle.std.specs.Prelude.{slice_index}
use Rattle.std.proofs.lemmas.Bool.{cases_eq}
use Rattle.std.proofs.lemmas.List.{get_or_default, get_or-set_same, get_or-set_other, get_or-take, length-take}
use Rattle.light_curves.specs.inside.Touched.{AreAtMostTwo}

-- one number more
pub each_more : (P : ℕ → ℕ → Type 0) (ns : List ℕ) (e v : ℕ) → e < length ns
    → ((k : ℕ) → k < e → P k (slice_index ns k)) → P e v → (k : ℕ) → k < e + 1 → P k (slice_index (set ns e v) k)
each_more P ns e v inside before here k low = elim (cases_eq k e) [
  | inl last ↦
      subst (λ (j : ℕ). P j (slice_index (set ns e v) j)) (sym last)
      (subst (P e) (sym (get_or-set_same ns e v 0 inside)) here)
  | inr apart ↦
      subst (P k) (sym (get_or-set_other ns e k v 0 apart)) (before k (omega (arith, low, apart)))
]

-- the first n numbers
pub first_few : (ns : List ℕ) (n : ℕ) → ((k : ℕ) → k < n → slice_index ns k ≤ 2) → AreAtMostTwo (take n ns)
first_few ns n few k d inside =
    let long = length-take n ns in
    let within : k < n = omega (arith, long, inside) in
    let there : k < length ns = omega (arith, long, inside) in
    subst (λ (m : ℕ). m ≤ 2) (sym (get_or-take n ns k d within ∙ get_or_default ns k d 0 there)) (few k within)
