use Rattle.std.proofs.Common.{◌≡◌, ◌<◌, ◌+◌, ◌*◌, ◌++◌, ℕ, List, [], map, length, take, drop, slice_index}
use Rattle.std.proofs.Common.{slice_index_or, count_by, nat_eq, sym, ◌∙◌, ap, subst, arith}
use Rattle.std.proofs.lemmas.List.{get_or-map}
use Rattle.transition_matrix.proofs.Counted.{IsCounted, counted_next, whole_front}
use Rattle.transition_matrix.proofs.matrix.Matrix.from_columns.Goals as goal

pub loop-j-preserved : goal.loop-j-preserved
loop-j-preserved c =
    let columns : List (List ℕ) = map (λ v. v.items) c.args.columns.now in
    let new : List ℕ = c.count_column.new.entries in
    let within : c.loop-j.j < length c.args.columns.now = omega arith in
    let is : slice_index_or columns c.loop-j.j [] ≡ c.deref.result.now
    = get_or-map (λ v. v.items) c.args.columns.now c.loop-j.j c.index-columns-j.result [] within
    ∙ ap (λ v. v.items) (sym c.index-columns-j.is) ∙ sym c.deref.ensures.value in
    let same : length new ≡ length c.loop-j.entries.items
    = c.count_column.auto.entries ∙ ap length c.deref_mut.ensures.value in
    let front : take c.loop-j.entries.len (new ++ drop (length new) c.loop-j.entries.items) ≡ new
    = whole_front c.loop-j.entries.len new _ (omega arith) in
    let next : IsCounted c.args.n columns (c.loop-j.j + 1) new
    = counted_next c.args.n columns c.loop-j.j c.loop-j.entries.items new (omega arith) c.loop-j.invariant same
    (λ i row. c.count_column.ensures.counted i row ∙ ap (count_by (nat_eq i)) (sym is))
    (λ i k row column apart. c.count_column.ensures.others i k row column apart
    ∙ ap (λ (es : List ℕ). slice_index es (i * c.args.n + k)) c.deref_mut.ensures.value) in
    let P : List ℕ → Type 0 = λ es. IsCounted c.args.n columns (c.loop-j.j + 1) es in
    subst P (sym front) next
