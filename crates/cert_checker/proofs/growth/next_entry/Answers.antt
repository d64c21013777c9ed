use Rattle.std.proofs.Common.{◌≡◌, ◌<◌, ◌*◌, ◌^◌, ◌-◌, ℕ, length, slice_index, ◌∙◌, ap, arith, rules, Vec, get_or}
use Rattle.std.specs.Global.{Global}
use Rattle.std.proofs.lemmas.List.{get_or_default}
use Rattle.transition_matrix.specs.Matrices.{entry}
use Rattle.cert_text.specs.Certificates.{track_seen}
use Rattle.cert_text.specs.PseudoAnosov.{matrix_of}
use Rattle.cert_checker.proofs.NextRow.{one_more, read_entry, row_long}
use Rattle.cert_checker.proofs.growth.next_entry.Goals as goal

pub index-requires-in-loop-j-2 : goal.index-requires-in-loop-j-2
index-requires-in-loop-j-2 c =
    let below : c.loop-j.j < length c.args.c.now.matrix.items = search rules in
    let row = c.index-in-loop-j.result.now in
    let long : length row.items ≡ length c.args.c.now.matrix.items =
    ap (λ (v : Vec ℕ Global). length v.items) c.index-in-loop-j.ensures
    ∙ row_long c.args.c.now c.loop-j.j row c.requires.square below in
    let within = c.requires.within in omega (arith, long, row.ok.0)

pub loop-j-preserved : goal.loop-j-preserved
loop-j-preserved c =
    let below : c.loop-j.j < length c.args.c.now.matrix.items = search rules in
    let row = c.index-in-loop-j.result.now in
    let long : length row.items ≡ length c.args.c.now.matrix.items =
    ap (λ (v : Vec ℕ Global). length v.items) c.index-in-loop-j.ensures
    ∙ row_long c.args.c.now c.loop-j.j row c.requires.square below in
    let within = c.requires.within in
    let u : c.index.result.now ≡ slice_index c.args.c.now.u.items c.loop-j.j =
    c.index.ensures
    ∙ get_or_default c.args.c.now.u.items c.loop-j.j c.index.result.now 0 (omega (arith, c.requires.one_each)) in
    let m : c.index-in-loop-j-2.result.now ≡ entry (matrix_of (track_seen c.args.c.now)) c.loop-j.j c.args.i =
    c.index-in-loop-j-2.ensures
    ∙ get_or_default row.items c.args.i c.index-in-loop-j-2.result.now 0 (omega (arith, long))
    ∙ ap (λ (v : Vec ℕ Global). get_or v.items c.args.i 0) c.index-in-loop-j.ensures
    ∙ read_entry c.args.c.now c.loop-j.j c.args.i row c.requires.square below within in
    c.saturating_add-sum.ensures
    ∙ one_more
    (λ (k : ℕ). slice_index c.args.c.now.u.items k * entry (matrix_of (track_seen c.args.c.now)) k c.args.i)
    c.loop-j.j c.loop-j.sum c.product.result (2 ^ 128 - 1) c.loop-j.invariant
    (c.product.ensures
    ∙ ap (λ (n : ℕ). n * c.index-in-loop-j-2.result.now) u
    ∙ ap (λ (n : ℕ). slice_index c.args.c.now.u.items c.loop-j.j * n) m)
