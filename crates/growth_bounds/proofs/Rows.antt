-- The search for the first row that grows.
--
-- The rows are read one after another from the row of ones on. Where an entry of the next row isn't small, no later
-- row grows: a row that grows is positive, so by then the rows never fall (ColumnSumLaws), and the entry stays too
-- great. The row of ones does not grow either then, if it is the one whose next row has such an entry.
use Rattle.std.proofs.Common.{◌≡◌, ◌<◌, ◌≤◌, ◌+◌, ◌*◌, ◌^◌, inl, inr, ℕ, zero, suc, List, length, slice_index}
use Rattle.std.proofs.Common.{slice_index_or, sym, ◌∙◌, ap, subst, arith, add-one}
use Rattle.std.proofs.lemmas.Bool.{cases_eq, cases_lt}
use Rattle.std.proofs.lemmas.List.{get_or_default}
use Rattle.transition_matrix.specs.Matrices.{Square, entry}
use Rattle.transition_matrix.specs.Bounds.{times, column_sum}
use Rattle.transition_matrix.specs.MatrixLaws.{SumLaws, ColumnSumLaws}
use Rattle.growth_bounds.specs.inside.Reached.{IsRow, IsReached, IsGrowing, GrowsWith, IsFound}
use Rattle.growth_bounds.specs.Rule.{Grows, IsFirstGrowth}

same_times : SumLaws → (m : Square) (u v : ℕ → ℕ) (i : ℕ) → ((l : ℕ) → l < m.size → u l ≡ v l)
    → times m u i ≡ times m v i
same_times laws m u v i same =
    laws.same m.size (λ l. u l * entry m l i) (λ l. v l * entry m l i) (λ l low. ap (λ (n : ℕ). n * entry m l i) (same
    l low))

next_is : SumLaws → ColumnSumLaws → (m : Square) (j : ℕ) (u : List ℕ) (i : ℕ) → IsRow m j u
    → times m (slice_index u) i ≡ column_sum m (suc j) i
next_is sums laws m j u i row =
    same_times sums m (slice_index u) (column_sum m j) i row.is ∙ sym (laws.next m j i)

small_entry : (u : List ℕ) (k d : ℕ) → k < length u → slice_index u k < 2 ^ 63 → slice_index_or u k d < 2 ^ 63
small_entry u k d low h = let P : ℕ → Type 0 = λ n. n < 2 ^ 63 in subst P (get_or_default u k 0 d low) h

pub row_of_ones : ColumnSumLaws → (m : Square) (u : List ℕ) → length u ≡ m.size
    → ((i : ℕ) → i < m.size → slice_index u i ≡ 1) → IsRow m 0 u
row_of_ones laws m u size ones = record {
  size = size;
  small = λ k d low. let e : slice_index u k ≡ 1 = ones k (omega arith) in small_entry u k d low (omega arith);
  is = λ i low. ones i low ∙ sym (laws.start m i low);
}

pub next_row : SumLaws → ColumnSumLaws → (m : Square) (j : ℕ) (u v : List ℕ) → IsRow m j u → length v ≡ m.size
    → ((i : ℕ) → i < m.size → (slice_index v i ≡ times m (slice_index u) i) × (slice_index v i < 2 ^ 63))
    → IsRow m (suc j) v
next_row sums laws m j u v row size product = record {
  size = size;
  small = λ k d low. small_entry v k d low (product k (omega arith)).1;
  is = λ i low. (product i low).0 ∙ next_is sums laws m j u i row;
}

-- the loops count by + 1
pub counted : (m : Square) (j : ℕ) (u : List ℕ) → IsRow m (suc j) u → IsRow m (j + 1) u
counted m j u row = let P : ℕ → Type 0 = λ k. IsRow m k u in subst P (sym (add-one j)) row

-- ---- one row

pub grows_here : (m : Square) (j : ℕ) (u v : List ℕ) → IsRow m j u → IsRow m (suc j) v → IsGrowing u v → Grows m j
grows_here m j u v row next growing = record {
  positive = λ i low. let e = row.is i low in let h = growing i (omega (arith, row.size)) in omega (arith, h.0, e);
  small = λ i low. let e = row.is i low in let h = row.small i 0 (omega (arith, row.size)) in omega (arith, h, e);
  next_small =
      λ i low. let e = next.is i low in let h = next.small i 0 (omega (arith, next.size)) in omega (arith, h, e);
  greater = λ i low.
      let d = row.is i low in let e = next.is i low in let h = growing i (omega (arith, row.size)) in
      omega (arith, h.1, d, e);
}

pub not_here : (m : Square) (j : ℕ) (u v : List ℕ) → IsRow m j u → IsRow m (suc j) v → ¬ IsGrowing u v → ¬ Grows m j
not_here m j u v row next stays grows =
    stays (λ i low.
    let within : i < m.size = omega (arith, row.size) in
    let d = row.is i within in let e = next.is i within in
    let some = grows.positive i within in let more = grows.greater i within in
    (omega (arith, some, d), omega (arith, more, d, e)))

-- an entry of the row after j is too great: from j on none grows
too_great : ColumnSumLaws → (m : Square) (j i : ℕ) → i < m.size → 2 ^ 63 ≤ column_sum m (suc j) i
    → (k : ℕ) → j ≤ k → ¬ Grows m k
too_great laws m j i within great zero from grows =
    let first : j ≡ 0 = omega arith in
    let P : ℕ → Type 0 = λ n. 2 ^ 63 ≤ column_sum m (suc n) i in
    let here = subst P first great in let small = grows.next_small i within in omega (arith, here, small)
too_great laws m j i within great (suc k) from grows =
    let rises = laws.rising m k (suc j) (suc (suc k)) i grows.positive (omega arith) within in
    let small = grows.next_small i within in
    omega (arith, rises, small, great)

pub none_after : SumLaws → ColumnSumLaws → (m : Square) (j : ℕ) (u : List ℕ) → IsRow m j u
    → (i : ℕ) × (i < m.size) × (2 ^ 63 ≤ times m (slice_index u) i) → (k : ℕ) → j ≤ k → ¬ Grows m k
none_after sums laws m j u row great =
    too_great laws m j great.0 great.1 (let e = next_is sums laws m j u great.0 row in omega (arith, e, great.2))

-- ---- the rows that were found

pub grown : SumLaws → ColumnSumLaws → (m : Square) (j : ℕ) (u v : List ℕ) → IsRow m j u → length v ≡ m.size
    → ((i : ℕ) → i < m.size → (slice_index v i ≡ times m (slice_index u) i) × (slice_index v i < 2 ^ 63))
    → IsGrowing u v → GrowsWith m j u v
grown sums laws m j u v row size product growing = record {
  row = row;
  next = next_row sums laws m j u v row size product;
  growing = growing;
  product = λ i low. sym (product i low).0;
}

pub grows_with : (m : Square) (j : ℕ) (u v : List ℕ) → GrowsWith m j u v → Grows m j
grows_with m j u v rows = grows_here m j u v rows.row rows.next rows.growing

-- ---- from the fourth row on

pub reached_first : ColumnSumLaws → (m : Square) (u : List ℕ) → length u ≡ m.size
    → ((i : ℕ) → i < m.size → slice_index u i ≡ 1) → IsReached m 0 u
reached_first laws m u size ones = record {
  row = row_of_ones laws m u size ones;
  none = λ k from below. absurd (omega arith);
}

pub goes_on : (m : Square) (j : ℕ) (u v : List ℕ) → IsReached m j u → IsRow m (suc j) v → (4 ≤ j → ¬ Grows m j)
    → IsReached m (j + 1) v
goes_on m j u v reached next here = record {
  row = counted m j v next;
  none = λ k from below. elim (cases_eq k j) [
    | inl e ↦ let P : ℕ → Type 0 = λ l. 4 ≤ l → ¬ Grows m l in let h = subst P (sym e) here in h from
    | inr apart ↦ reached.none k from (omega arith)
  ];
}

pub found_first : (m : Square) (j : ℕ) (u v : List ℕ) → IsReached m j u → GrowsWith m j u v → 4 ≤ j → j ≤ 64
    → IsFound m (IsFirstGrowth m) u v
found_first m j u v reached rows from to = record {
  number = j;
  chosen = record {
    from_four = from;
    to_sixty_four = to;
    grows = grows_with m j u v rows;
    first = reached.none;
  };
  rows = rows;
}

-- the search ends at j
pub none_from_four : (m : Square) (j : ℕ) (u : List ℕ) → IsReached m j u → ((k : ℕ) → j ≤ k → ¬ Grows m k)
    → (k : ℕ) → 4 ≤ k → ¬ Grows m k
none_from_four m j u reached after k from = elim (cases_lt k j) [
  | inl low ↦ reached.none k from low
  | inr past ↦ after k past
]
