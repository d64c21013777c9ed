-- A table in which some columns are counted and the others are zero.
use Rattle.std.proofs.Common.{◌≡◌, ◌≢◌, ◌<◌, ◌≤◌, ◌+◌, ◌*◌, ◌++◌, ◌⊎◌, inl, inr, ℕ, List, [], length, take, drop}
use Rattle.std.proofs.Common.{slice_index, slice_index_or, count_by, nat_eq, refl, sym, ◌∙◌, ap, subst, arith}
use Rattle.std.proofs.Math.Seq.{take-append_seam}
use Rattle.std.proofs.lemmas.Bool.{cases_eq}

-- what stands at the front is all of it
pub whole_front : (n : ℕ) (xs ys : List ℕ) → length xs ≡ n → take n (xs ++ ys) ≡ xs
whole_front n xs ys e = ap (λ (m : ℕ). take m (xs ++ ys)) (sym e) ∙ take-append_seam xs ys

-- the columns below j are counted, the others are zero
pub record IsCounted (n : ℕ) (columns : List (List ℕ)) (j : ℕ) (es : List ℕ) : Type 0 where
  pub whole : length es ≡ n * n
  pub counted : (i k : ℕ) → i < n → k < j → slice_index es (i * n + k)
      ≡ count_by (nat_eq i) (slice_index_or columns k [])
  pub zero : (i k : ℕ) → i < n → j ≤ k → k < n → slice_index es (i * n + k) ≡ 0

pub counted_next : (n : ℕ) (columns : List (List ℕ)) (j : ℕ) (es new : List ℕ) → j < n → IsCounted n columns j es
    → length new ≡ length es
    → ((i : ℕ) → i < n → slice_index new (i * n + j) ≡ count_by (nat_eq i) (slice_index_or columns j []))
    → ((i k : ℕ) → i < n → k < n → k ≢ j → slice_index new (i * n + k) ≡ slice_index es (i * n + k))
    → IsCounted n columns (j + 1) new
counted_next n columns j es new within before same here others = record {
  whole = same ∙ before.whole;
  counted = λ i k row column. elim (cases_eq k j) [
    | inl e ↦ let P : ℕ → Type 0 = λ l. slice_index new (i * n + l)
        ≡ count_by (nat_eq i) (slice_index_or columns l []) in
        subst P (sym e) (here i row)
    | inr apart ↦ others i k row (omega arith) apart ∙ before.counted i k row (omega arith)
  ];
  zero = λ i k row after column. others i k row column (λ e. omega arith) ∙ before.zero i k row (omega arith) column;
}
