-- The entries of a matrix whose rows are listed one after another.
use Rattle.std.proofs.Common.{◌≡◌, ◌<◌, ◌+◌, ◌*◌, ◌++◌, ℕ, zero, suc, List, [], ◌∷◌, length, ◌∙◌, ap, arith, get_or}
use Rattle.std.specs.List.{flat_map}
use Rattle.std.proofs.lemmas.List.{get_or-append-add, get_or_append_left}

abbrev joined : List (List ℕ) → List ℕ
joined rows = flat_map (λ (row : List ℕ). row) rows

pub entry_at : (n : ℕ) (rows : List (List ℕ)) (i j : ℕ) → ((k : ℕ) → k < length rows → length (get_or rows k []) ≡ n)
    → i < length rows → j < n → get_or (joined rows) (i * n + j) 0 ≡ get_or (get_or rows i []) j 0
entry_at n [] i j long within below = absurd (omega arith)
entry_at n (row ∷ rows) zero j long within below =
    let first : length row ≡ n = long 0 (omega arith) in
    let place : 0 * n + j ≡ j = omega arith in
    ap (λ (k : ℕ). get_or (row ++ joined rows) k 0) place
    ∙ get_or_append_left row (joined rows) 0 j (omega (arith, first))
entry_at n (row ∷ rows) (suc i) j long within below =
    let first : length row ≡ n = long 0 (omega arith) in
    let place : suc i * n + j ≡ length row + (i * n + j) = omega (arith, first) in
    ap (λ (k : ℕ). get_or (row ++ joined rows) k 0) place
    ∙ get_or-append-add row (joined rows) (i * n + j) 0
    ∙ entry_at n rows i j (λ k less. long (suc k) (omega arith)) (omega arith) below
