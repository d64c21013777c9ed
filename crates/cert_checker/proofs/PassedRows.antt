-- Rows that count passes: the rows of the matrix of passes are those that the rule asks for, since a walk has the
-- passes of one list alone.
use Rattle.std.proofs.Common.{◌≡◌, ◌<◌, ◌≤◌, ◌⊎◌, inl, inr, ℕ, ℤ, List, [], ◌∷◌, length, max, sym, ◌∙◌, ap, arith, subst, get_or}
use Rattle.std.proofs.lemmas.Bool.{cases_lt}
use Rattle.train_track.specs.Passes.{Pass, ArePassesOf}
use Rattle.train_track.specs.TrackLaws.{ListLaws}
use Rattle.transition_matrix.specs.MatrixLaws.{SumLaws}
use Rattle.transition_matrix.specs.Matrices.{Square, entry}
use Rattle.carry_map.specs.Iterates.{IsTransition, passed}
use Rattle.cert_text.specs.Certificates.{CarriedTrack}
use Rattle.cert_text.specs.PseudoAnosov.{matrix_of}
use Rattle.cert_checker.specs.FirstFailing.{AllPass, IsFirstFailing}
use Rattle.cert_checker.specs.TrackRules.{IsExponent, IsRowAt}
use Rattle.cert_checker.specs.TrackRefusals.{IsMatrixRefusal}
use Rattle.cert_checker.specs.inside.Columns.{IsRowOf}
use Rattle.cert_checker.specs.inside.TrackParts.{IsMatrix}
use Rattle.cert_checker.proofs.MatrixEntries.{entry_at}
use Rattle.cert_checker.proofs.SamePowers.{same_exponent}

-- ---- one row

only_passes : (ts : List (List ℤ)) (out : List ℤ) (branches : List (List ℤ)) → ListLaws ts out branches
    → (w : List ℤ) (first second : List Pass) → ArePassesOf branches first w → ArePassesOf branches second w
    → first ≡ second
only_passes ts out branches laws [] first second a b = a ∙ sym b
only_passes ts out branches laws (x ∷ w) first second a b = laws.only x first second w a b

module _ (branches : List (List ℤ)) (c : CarriedTrack) (m : Square) (t : IsTransition branches c.images m) where
  row_at : (i : ℕ) → IsRowOf m c.matrix i → IsRowAt branches c i
  row_at i r = record {
    branch = subst (λ (n : ℕ). i < n) t.size r.within;
    row = r.row;
    one_entry_each = r.one_entry_each ∙ t.size;
    counts = λ j below.
        let within : j < m.size = subst (λ (n : ℕ). j < n) (sym t.size) below in
        let (passes, are, counts) = t.passes j within in
        (passes, are, r.entries j within ∙ counts i r.within);
  }

  row_of : (ts : List (List ℤ)) (out : List ℤ) → ListLaws ts out branches → (i : ℕ) → IsRowAt branches c i
      → IsRowOf m c.matrix i
  row_of ts out laws i r =
      let here : i < m.size = subst (λ (n : ℕ). i < n) (sym t.size) r.branch in record {
        within = here;
        row = r.row;
        one_entry_each = r.one_entry_each ∙ sym t.size;
        entries = λ j within.
            let (passes, are, is) = r.counts j (subst (λ (n : ℕ). j < n) t.size within) in
            let (own, own_are, counts) = t.passes j within in
            is
            ∙ ap (λ (ps : List Pass). passed ps i)
            (only_passes ts out branches laws (get_or c.images j []) passes own are own_are)
            ∙ sym (counts i here);
      }

  -- ---- all rows

  same_count : max m.size (length c.matrix) ≡ max (length branches) (length c.matrix)
  same_count = ap (λ (n : ℕ). max n (length c.matrix)) t.size

  first_row : (ts : List (List ℤ)) (out : List ℤ) → ListLaws ts out branches → (i : ℕ)
      → IsFirstFailing (max m.size (length c.matrix)) (IsRowOf m c.matrix) i
      → IsFirstFailing (max (length branches) (length c.matrix)) (IsRowAt branches c) i
  first_row ts out laws i f = record {
    within = subst (λ (n : ℕ). i < n) same_count f.within;
    fails = λ r. f.fails (row_of ts out laws i r);
    before = λ k less. row_at k (f.before k less);
  }

  pub refused_row : (ts : List (List ℤ)) (out : List ℤ) → ListLaws ts out branches → (i : ℕ)
      → IsFirstFailing (max m.size (length c.matrix)) (IsRowOf m c.matrix) i → IsMatrixRefusal branches c i
  refused_row ts out laws i f = IsMatrixRefusal.by_row (first_row ts out laws i f)

  module _ (sums : SumLaws) (all : AllPass (max m.size (length c.matrix)) (IsRowOf m c.matrix)) where
    all_rows : AllPass (max (length branches) (length c.matrix)) (IsRowAt branches c)
    all_rows k less = row_at k (all k (subst (λ (n : ℕ). k < n) (sym same_count) less))

    as_many : m.size ≡ length c.matrix
    as_many = at (cases_lt m.size (length c.matrix)) (cases_lt (length c.matrix) m.size)
      where
        at : (m.size < length c.matrix) ⊎ (length c.matrix ≤ m.size)
            → (length c.matrix < m.size) ⊎ (m.size ≤ length c.matrix) → m.size ≡ length c.matrix
        at (inl less) other =
            let r = all m.size (omega arith) in
            let below = r.within in absurd (omega arith)
        at (inr same) (inl less) =
            let r = all (length c.matrix) (omega arith) in
            let below = r.row in absurd (omega arith)
        at (inr below) (inr above) = omega arith

    same_entry : (i j : ℕ) → i < m.size → j < m.size → entry m i j ≡ entry (matrix_of c) i j
    same_entry i j row column =
        let here : i < length c.matrix = omega (arith, as_many) in
        let r = all i (omega arith) in
        sym (r.entries j column)
        ∙ sym (entry_at (length c.matrix) c.matrix i j
        (λ k less. let r = all k (omega arith) in r.one_entry_each ∙ as_many) here (omega (arith, as_many)))

    pub held_matrix : IsExponent m c.exponent → IsMatrix branches c
    held_matrix e = record {
      rows = all_rows;
      exponent = same_exponent sums m (matrix_of c) as_many same_entry c.exponent e;
    }

    pub refused_exponent : ¬ IsExponent m c.exponent → IsMatrixRefusal branches c m.size
    refused_exponent none =
        IsMatrixRefusal.by_exponent t.size all_rows
        (λ e. none (same_exponent sums (matrix_of c) m (sym as_many)
        (λ i j row column. sym (same_entry i j (omega (arith, as_many)) (omega (arith, as_many)))) c.exponent e))
