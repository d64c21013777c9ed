-- A test of each triangle, one after another.
use Rattle.std.proofs.Common.{◌≡◌, ◌<◌, ◌≤◌, ◌+◌, ◌⊎◌, inl, inr, ℕ, ℤ, List, [], length, slice_get, slice_index_or}
use Rattle.std.proofs.Common.{Some, All, sym, subst, arith}
use Rattle.std.proofs.lemmas.Bool.{cases_eq}
use Rattle.std.proofs.lemmas.List.{get_or_default}
use Rattle.std.proofs.lemmas.Option.{get_or_from_slice_get}
use Rattle.edge_coords.specs.Refusals.{IsLeastFailing}

-- the triangles before t pass
abbrev pub PassBefore : (List ℤ → Type 0) → List (List ℤ) → ℕ → Type 0
PassBefore P ts t = (s : ℕ) → s < t → P (slice_index_or ts s [])

pub pass_next : (P : List ℤ → Type 0) (ts : List (List ℤ)) (triple : List ℤ) (t : ℕ) → slice_get ts t ≡ Some triple
    → PassBefore P ts t → P triple → PassBefore P ts (t + 1)
pass_next P ts triple t is before here s low = elim (cases_eq s t) [
  | inl e ↦
      let Q : ℕ → Type 0 = λ r. P (slice_index_or ts r []) in
      subst Q (sym e) (subst P (sym (get_or_from_slice_get ts t triple [] is)) here)
  | inr apart ↦ before s (omega arith)
]

pub least_failing : (P : List ℤ → Type 0) (ts : List (List ℤ)) (triple : List ℤ) (t : ℕ) → t < length ts
    → slice_get ts t ≡ Some triple → PassBefore P ts t → ¬ P triple → IsLeastFailing ts P t
least_failing P ts triple t within is before fails = record {
  within = within;
  fails = λ here. fails (subst P (get_or_from_slice_get ts t triple [] is) here);
  before = before;
}

pub all_pass : (P : List ℤ → Type 0) (ts : List (List ℤ)) (t : ℕ) → length ts ≤ t → PassBefore P ts t → All P ts
all_pass P ts t past before k d within =
    subst P (get_or_default ts k [] d within) (before k (omega arith))
