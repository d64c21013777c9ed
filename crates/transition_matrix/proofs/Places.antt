-- Places in a table of n rows and n columns that is kept row after row: row i and column j at the place i * n + j.
use Rattle.std.proofs.Common.{◌≡◌, ◌≢◌, ◌<◌, ◌≤◌, ◌+◌, ◌*◌, ◌⊎◌, inl, inr, ℕ, zero, suc, List, length, take}
use Rattle.std.proofs.Common.{slice_index, slice_index_or, slice_set, count_by, nat_eq, true, false, Bool, refl, sym}
use Rattle.std.proofs.Common.{◌∙◌, ap, subst, arith}
use native.Mathlib.Nat.{suc-mul, mul-le-mul_right}
use Rattle.std.proofs.lemmas.Bool.{cases_eq, cases_order, eq-eqb, ne_eqb}
use Rattle.std.proofs.lemmas.List.{length-take-le, get_or-set_same, get_or-set_other}
use Rattle.std.proofs.lemmas.List.Sums.{count_by-le-length, count_by_more_yes, count_by_more_no}

-- ---- different places

pub lower_row : (n i c j k : ℕ) → j < n → i < c → i * n + j < c * n + k
lower_row n i c j k within lower =
    let rows : suc i * n ≤ c * n = mul-le-mul_right n lower in
    omega (arith, suc-mul i n)

pub place_within : (n i j : ℕ) → i < n → j < n → i * n + j < n * n
place_within n i j row column = let h : i * n + j < n * n + 0 = lower_row n i n j 0 column row in omega arith

pub same_row : (n i c j k : ℕ) → j < n → k < n → i * n + j ≡ c * n + k → i ≡ c
same_row n i c j k left right same =
    elim (cases_order i c) [
      | inl e ↦ e
      | inr apart ↦ elim apart [
        | inl lower ↦ absurd (omega (arith, lower_row n i c j k left lower))
        | inr upper ↦ absurd (omega (arith, lower_row n c i k j right upper))
      ]
    ]

pub same_column : (n i c j k : ℕ) → j < n → k < n → i * n + j ≡ c * n + k → j ≡ k
same_column n i c j k left right same =
    let rows : i * n ≡ c * n = ap (λ (r : ℕ). r * n) (same_row n i c j k left right same) in
    omega arith

-- ---- counting in a column

module _ (n j c k : ℕ) (es : List ℕ) (column : List ℕ) (within : j < n) (row : c < n) (some : k < length column)
    (is : slice_index column k ≡ c) (whole : length es ≡ n * n) where
  abbrev counted_entries : List ℕ
  counted_entries = slice_set es (c * n + j) (slice_index es (c * n + j) + 1)

  pub counted_more : ((i : ℕ) → i < n → slice_index es (i * n + j) ≡ count_by (nat_eq i) (take k column))
      → (i : ℕ) → i < n → slice_index counted_entries (i * n + j) ≡ count_by (nat_eq i) (take (k + 1) column)
  counted_more before i low =
      elim (cases_eq i c) [
        | inl e ↦
            let here : slice_index counted_entries (c * n + j) ≡ slice_index es (c * n + j) + 1
            = get_or-set_same es (c * n + j) _ 0 (omega (arith, place_within n c j row within)) in
            let yes : nat_eq i (slice_index column k) ≡ true = eq-eqb i _ (e ∙ sym is) in
            let more = count_by_more_yes (nat_eq i) column k 0 some yes in
            let P : ℕ → Type 0 = λ r. slice_index counted_entries (r * n + j) ≡ slice_index es (r * n + j) + 1 in
            subst P (sym e) here ∙ ap (λ (m : ℕ). m + 1) (before i low) ∙ sym more
        | inr apart ↦
            let other = get_or-set_other es (c * n + j) (i * n + j) (slice_index es (c * n + j) + 1) 0
            (λ e. apart (same_row n i c j j within within e)) in
            let no : nat_eq i (slice_index column k) ≡ false = ne_eqb i _ (λ e. apart (e ∙ is)) in
            other ∙ before i low ∙ sym (count_by_more_no (nat_eq i) column k 0 some no)
      ]

  pub counted_others : (i l : ℕ) → l < n → l ≢ j → slice_index counted_entries (i * n + l) ≡ slice_index es (i * n + l)
  counted_others i l low apart =
      get_or-set_other es (c * n + j) (i * n + l) (slice_index es (c * n + j) + 1) 0
      (λ e. apart (same_column n i c l j low within e))

pub count_small : (p : ℕ → Bool) (xs : List ℕ) (k : ℕ) → k ≤ length xs → count_by p (take k xs) ≤ k
count_small p xs k within = omega (arith, count_by-le-length p (take k xs), length-take-le k xs within)
