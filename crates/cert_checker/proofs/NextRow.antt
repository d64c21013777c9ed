-- An entry of the row that comes next, term by term.
use Rattle.std.proofs.Common.{◌≡◌, ◌<◌, ◌+◌, ℕ, suc, List, [], length, min, refl, sym, ◌∙◌, ap, arith, get_or}
use Rattle.std.proofs.Common.{Vec}
use Rattle.std.specs.Global.{Global}
use Rattle.std.proofs.lemmas.List.{get_or-map, length-map}
use Rattle.transition_matrix.specs.Matrices.{entry, sum_below}
use Rattle.cert_text.specs.Certificates.{rows_of, track_seen}
use Rattle.cert_text.specs.PseudoAnosov.{matrix_of}
use Rattle.cert_text.specs.declared.carried_track.Pa.{Pa}
use Rattle.cert_checker.specs.inside.TrackParts.{IsSquare}
use Rattle.cert_checker.proofs.MatrixEntries.{entry_at}

-- each row has as many entries as there are rows
pub row_long : (c : Pa) (j : ℕ) (d : Vec ℕ Global) → IsSquare (track_seen c) → j < length c.matrix.items
    → length (get_or c.matrix.items j d).items ≡ length c.matrix.items
row_long c j d square below =
    let long : length (rows_of c.matrix.items) ≡ length c.matrix.items =
    length-map c.matrix.items (λ (row : Vec ℕ Global). row.items) in
    ap length (sym (get_or-map (λ (row : Vec ℕ Global). row.items) c.matrix.items j d [] below))
    ∙ square j (omega (arith, long)) ∙ long

pub read_entry : (c : Pa) (j i : ℕ) (d : Vec ℕ Global) → IsSquare (track_seen c) → j < length c.matrix.items
    → i < length c.matrix.items
    → get_or (get_or c.matrix.items j d).items i 0 ≡ entry (matrix_of (track_seen c)) j i
read_entry c j i d square below within =
    let long : length (rows_of c.matrix.items) ≡ length c.matrix.items =
    length-map c.matrix.items (λ (row : Vec ℕ Global). row.items) in
    ap (λ (row : List ℕ). get_or row i 0)
    (sym (get_or-map (λ (row : Vec ℕ Global). row.items) c.matrix.items j d [] below))
    ∙ sym (entry_at (length (rows_of c.matrix.items)) (rows_of c.matrix.items) j i square (omega (arith, long))
    (omega (arith, long)))

-- a sum that stays below a limit, with one more term
pub one_more : (f : ℕ → ℕ) (j sum term top : ℕ) → sum ≡ min (sum_below j f) top → term ≡ f j
    → min (sum + term) top ≡ min (sum_below (j + 1) f) top
one_more f j sum term top is at =
    let next : sum_below (suc j) f ≡ sum_below j f + f j = refl in grind (arith, next)
