use Rattle.std.proofs.Common.{◌≡◌, ℕ, ℤ, List, Vec, length, max, true, false, refl, sym, ◌∙◌, ap, subst, rules}
use Rattle.std.specs.Global.{Global}
use Rattle.std.proofs.lemmas.List.{length-map}
use Rattle.train_track.specs.Branches.{TrainTrack, words_of}
use Rattle.train_track.specs.TrackLaws.{ListLaws, TrackLaws}
use Rattle.transition_matrix.specs.Matrices.{Square}
use Rattle.cert_text.specs.Certificates.{CarriedTrack, rows_of, track_seen}
use Rattle.cert_checker.specs.FirstFailing.{AllPass, IsFirstFailing}
use Rattle.cert_checker.specs.TrackRefusals.{IsMatrixRefusal}
use Rattle.cert_checker.specs.inside.Columns.{IsRowOf}
use Rattle.cert_checker.specs.inside.TrackParts.{CanBePassed}
use Rattle.cert_checker.proofs.PassedRows.{held_matrix, refused_exponent, refused_row}
use Rattle.cert_checker.proofs.matrix.check_matrix.Goals as goal

true_not_false : true ≡ false → ⊥
true_not_false e = cc

list_laws : (ts : List (List ℤ)) (track : TrainTrack) (c : CarriedTrack) → TrackLaws → CanBePassed ts track c
    → ListLaws ts track.left_out (words_of track.branches)
list_laws ts track c laws h =
    laws.lists ts track.left_out (words_of track.branches) h.sound h.on.filling.single h.on.branches

-- as many rows are read as are seen
same_rows : (rows read : List (Vec ℕ Global)) (m : Square) → read ≡ rows
    → max m.size (length read) ≡ max m.size (length (rows_of rows))
same_rows rows read m same =
    ap (λ (n : ℕ). max m.size n)
    (ap length same ∙ sym (length-map rows (λ (row : Vec ℕ Global). row.items)))

first_seen : (rows read : List (Vec ℕ Global)) (m : Square) (i : ℕ) → read ≡ rows
    → IsFirstFailing (max m.size (length read)) (IsRowOf m (rows_of read)) i
    → IsFirstFailing (max m.size (length (rows_of rows))) (IsRowOf m (rows_of rows)) i
first_seen rows read m i same f =
    subst (λ (n : ℕ). IsFirstFailing n (IsRowOf m (rows_of rows)) i) (same_rows rows read m same)
    (subst (λ (rs : List (Vec ℕ Global)). IsFirstFailing (max m.size (length read)) (IsRowOf m (rows_of rs)) i) same f)

all_seen : (rows read : List (Vec ℕ Global)) (m : Square) → read ≡ rows
    → AllPass (max m.size (length read)) (IsRowOf m (rows_of read))
    → AllPass (max m.size (length (rows_of rows))) (IsRowOf m (rows_of rows))
all_seen rows read m same all =
    subst (λ (n : ℕ). AllPass n (IsRowOf m (rows_of rows))) (same_rows rows read m same)
    (subst (λ (rs : List (Vec ℕ Global)). AllPass (max m.size (length read)) (IsRowOf m (rows_of rs))) same all)

pub returns-in-Some-clause-refused : goal.returns-in-Some-clause-refused
returns-in-Some-clause-refused c =
    let same : c.deref.result.now ≡ c.args.c.now.matrix.items = search rules in (
      refl,
      refused_row (words_of c.args.track.now.branches) (track_seen c.args.c.now) c.in-Ok.m c.in-Ok.ensures
          c.args.tri.now c.args.track.now.left_out
          (list_laws c.args.tri.now c.args.track.now (track_seen c.args.c.now) c.track_laws.ensures c.requires)
          c.in-Some.i
          (first_seen c.args.c.now.matrix.items c.deref.result.now c.in-Ok.m c.in-Some.i same c.in-Some.ensures.some),
    )

pub returns-in-Ok-true-clause-held : goal.returns-in-Ok-true-clause-held
returns-in-Ok-true-clause-held c =
    let same : c.deref.result.now ≡ c.args.c.now.matrix.items = search rules in
    held_matrix (words_of c.args.track.now.branches) (track_seen c.args.c.now) c.in-Ok.m c.in-Ok.ensures
    c.matrix_laws.ensures.sums
    (all_seen c.args.c.now.matrix.items c.deref.result.now c.in-Ok.m same c.in_default-first_other_row.ensures.none)
    (c.in-Ok-true.ensures.0 c.in-Ok-true.field-0-test)

pub returns-in-Ok-false-clause-refused : goal.returns-in-Ok-false-clause-refused
returns-in-Ok-false-clause-refused c =
    let same : c.deref.result.now ≡ c.args.c.now.matrix.items = search rules in (
      refl,
      subst (IsMatrixRefusal (words_of c.args.track.now.branches) (track_seen c.args.c.now)) (sym c.size.ensures)
          (refused_exponent (words_of c.args.track.now.branches) (track_seen c.args.c.now) c.in-Ok.m c.in-Ok.ensures
          c.matrix_laws.ensures.sums
          (all_seen c.args.c.now.matrix.items c.deref.result.now c.in-Ok.m same
          c.in_default-first_other_row.ensures.none)
          (λ e. true_not_false (sym (c.in-Ok-false.ensures.1 e) ∙ c.in-Ok-false.field-0-test))),
    )
