-- Writing down, entry by entry, which entries of a matrix are positive.
use Rattle.std.proofs.Common.{◌≡◌, ◌≢◌, ◌<◌, ◌≤◌, ◌+◌, ◌*◌, ◌⊎◌, inl, inr, ℕ, List, nat_lt, true, false, Bool, refl}
use Rattle.std.proofs.Common.{sym, ◌∙◌, ap, subst, arith}
use Rattle.std.proofs.lemmas.Bool.{cases_eq, lt-ltb, le-ltb}
use Rattle.transition_matrix.specs.Matrices.{Square, entry}
use Rattle.transition_matrix.specs.inside.Bits.{bit, IsTable}

-- what is written once the rows below i are done, and in row i the columns below j
pub record IsWritten (m : Square) (width : ℕ) (words : List ℕ) (i j : ℕ) : Type 0 where
  pub rows : (r c : ℕ) → r < i → c < m.size → bit width words r c ≡ nat_lt 0 (entry m r c)
  pub row : (c : ℕ) → c < j → bit width words i c ≡ nat_lt 0 (entry m i c)
  pub clear_row : (c : ℕ) → j ≤ c → c < width * 64 → bit width words i c ≡ false
  pub clear_rows : (r c : ℕ) → i < r → c < width * 64 → bit width words r c ≡ false

-- a positive entry is written down
pub written_set : (m : Square) (width : ℕ) (words new : List ℕ) (i j : ℕ) → m.size < width * 64 → j < m.size
    → IsWritten m width words i j → 0 < entry m i j
    → bit width new i j ≡ true
    → ((k : ℕ) → k ≢ j → bit width new i k ≡ bit width words i k)
    → ((l k : ℕ) → l ≢ i → k < width * 64 → bit width new l k ≡ bit width words l k)
    → IsWritten m width new i (j + 1)
written_set m width words new i j wide within before some here columns others = record {
  rows = λ r c low column. others r c (λ e. omega arith) (omega arith) ∙ before.rows r c low column;
  row = λ c low. elim (cases_eq c j) [
    | inl e ↦ let P : ℕ → Type 0 = λ k. bit width new i k ≡ nat_lt 0 (entry m i k) in
        subst P (sym e) (here ∙ sym (lt-ltb 0 (entry m i j) some))
    | inr apart ↦ columns c apart ∙ before.row c (omega arith)
  ];
  clear_row = λ c past column. columns c (λ e. omega arith) ∙ before.clear_row c (omega arith) column;
  clear_rows = λ r c past column. others r c (λ e. omega arith) column ∙ before.clear_rows r c past column;
}

-- a zero entry is left as it was
pub written_skip : (m : Square) (width : ℕ) (words : List ℕ) (i j : ℕ) → m.size < width * 64 → j < m.size
    → IsWritten m width words i j → entry m i j ≤ 0 → IsWritten m width words i (j + 1)
written_skip m width words i j wide within before none = record {
  rows = before.rows;
  row = λ c low. elim (cases_eq c j) [
    | inl e ↦ let P : ℕ → Type 0 = λ k. bit width words i k ≡ nat_lt 0 (entry m i k) in
        subst P (sym e) (before.clear_row j (omega arith) (omega arith) ∙ sym (le-ltb 0 (entry m i j) none))
    | inr apart ↦ before.row c (omega arith)
  ];
  clear_row = λ c past column. before.clear_row c (omega arith) column;
  clear_rows = before.clear_rows;
}

-- a whole row is done
pub written_row : (m : Square) (width : ℕ) (words : List ℕ) (i j : ℕ) → m.size ≤ j
    → IsWritten m width words i j → IsWritten m width words (i + 1) 0
written_row m width words i j whole before = record {
  rows = λ r c low column. elim (cases_eq r i) [
    | inl e ↦ let P : ℕ → Type 0 = λ k. bit width words k c ≡ nat_lt 0 (entry m k c) in
        subst P (sym e) (before.row c (omega arith))
    | inr apart ↦ before.rows r c (omega arith) column
  ];
  row = λ c low. absurd (omega arith);
  clear_row = λ c past column. before.clear_rows (i + 1) c (omega arith) column;
  clear_rows = λ r c past column. before.clear_rows r c (omega arith) column;
}
