-- The rows of a matrix, one after another.
use Rattle.std.proofs.Common.{◌≡◌, ◌<◌, ◌≤◌, ◌+◌, ◌*◌, ◌-◌, ◌++◌, ℕ, zero, suc, List, [], ◌∷◌, length, sym, ◌∙◌, ap, subst, arith}
use Rattle.std.proofs.Common.{Vec, take, drop, get_or, length-append}
use Rattle.std.specs.Global.{Global}
use Rattle.std.specs.List.{All, flat_map}
use Rattle.std.proofs.Math.Nat.{add-mul}
use Rattle.std.proofs.Math.Seq.{take-add}
use Rattle.std.proofs.lemmas.Grind.{flat_map-append}
use Rattle.std.proofs.lemmas.List.{append-nil, length-drop, length-map, length-take-le, map-append, take_all}
use Rattle.std.proofs.lemmas.List.Elements.{All-append}
use Rattle.std.proofs.lemmas.Nat.{mul-le}
use Rattle.transition_matrix.specs.Matrices.{Square}
use Rattle.cert_text.specs.Certificates.{rows_of}
use Rattle.verdict_plan.specs.inside.Trials.{AreRows}

-- the first rows of the matrix
pub record AreFirstRows (m : Square) (i : ℕ) (rows : List (Vec ℕ Global)) : Type 0 where
  pub as_many : length rows ≡ i
  pub entries : flat_map (λ row. row) (rows_of rows) ≡ take (i * m.size) m.entries
  pub lengths : All (λ row. length row ≡ m.size) (rows_of rows)

module _ (m : Square) (whole : length m.entries ≡ m.size * m.size) where
  row_long : (i : ℕ) → i < m.size → length (take m.size (drop (i * m.size) m.entries)) ≡ m.size
  row_long i below =
      let room : (i + 1) * m.size ≤ m.size * m.size = mul-le (i + 1) m.size m.size m.size (omega arith) (omega arith) in
      let more : (i + 1) * m.size ≡ i * m.size + 1 * m.size = add-mul i 1 m.size in
      let left : length (drop (i * m.size) m.entries) ≡ length m.entries - i * m.size =
      length-drop (i * m.size) m.entries in
      length-take-le m.size (drop (i * m.size) m.entries) (omega (arith, room, more, left, whole))

  pub next_row : (i : ℕ) (rows : List (Vec ℕ Global)) (v : Vec ℕ Global) → i < m.size → AreFirstRows m i rows
      → v.items ≡ take m.size (drop (i * m.size) m.entries) → AreFirstRows m (i + 1) (rows ++ v ∷ [])
  next_row i rows v below h is = record {
    as_many = length-append rows (v ∷ []) ∙ ap (λ (k : ℕ). k + 1) h.as_many;
    entries =
        (let more : i * m.size + m.size ≡ (i + 1) * m.size =
        (let sum : (i + 1) * m.size ≡ i * m.size + 1 * m.size = add-mul i 1 m.size in omega (arith, sum)) in
        ap (flat_map (λ (row : List ℕ). row)) split
        ∙ flat_map-append (λ (row : List ℕ). row) (rows_of rows) (v.items ∷ [])
        ∙ ap (λ (xs : List ℕ). flat_map (λ (row : List ℕ). row) (rows_of rows) ++ xs) (append-nil v.items ∙ is)
        ∙ ap (λ (xs : List ℕ). xs ++ take m.size (drop (i * m.size) m.entries)) h.entries
        ∙ sym (take-add (i * m.size) m.size m.entries)
        ∙ ap (λ (n : ℕ). take n m.entries) more);
    lengths =
        subst (All (λ (row : List ℕ). length row ≡ m.size)) (sym split)
        (All-append (λ (row : List ℕ). length row ≡ m.size) (rows_of rows) (v.items ∷ []) h.lengths
        (one v.items (ap length is ∙ row_long i below)));
  }
    where
      split : rows_of (rows ++ v ∷ []) ≡ rows_of rows ++ (v.items ∷ [])
      split = map-append (λ (row : Vec ℕ Global). row.items) rows (v ∷ [])

      one : (xs : List ℕ) → length xs ≡ m.size → All (λ (row : List ℕ). length row ≡ m.size) (xs ∷ [])
      one xs e k d within = only xs e k d within
        where
          only : (xs : List ℕ) → length xs ≡ m.size → (k : ℕ) (d : List ℕ) → k < 1
              → length (get_or (xs ∷ []) k d) ≡ m.size
          only xs e zero d within = e
          only xs e (suc k) d within = absurd (omega arith)

  pub all_rows : (rows : List (Vec ℕ Global)) → AreFirstRows m m.size rows → AreRows m (rows_of rows)
  all_rows rows h = record {
    matrix =
        ap (λ (n : ℕ). record { size = n; entries = flat_map (λ (row : List ℕ). row) (rows_of rows) }) long
        ∙ ap (λ (xs : List ℕ). record { size = m.size; entries = xs })
        (h.entries ∙ take_all (m.size * m.size) m.entries (omega (arith, whole)));
    lengths = λ i below. h.lengths i [] below ∙ sym long;
  }
    where
      long : length (rows_of rows) ≡ m.size
      long = length-map rows (λ (row : Vec ℕ Global). row.items) ∙ h.as_many
