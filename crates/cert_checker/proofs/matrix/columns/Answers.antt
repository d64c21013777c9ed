use Rattle.std.proofs.Common.{◌≡◌, ◌<◌, ◌++◌, ◌∷◌, ◌+◌, [], ℕ, ℤ, List, Vec, length, sym, ◌∙◌, ap, subst, arith, rules, get_or}
use Rattle.std.specs.Global.{Global}
use Rattle.std.proofs.lemmas.List.{get_or-map, length-map}
use Rattle.train_track.specs.Branches.{words_of}
use Rattle.cert_text.specs.Certificates.{track_seen, walks_of}
use Rattle.cert_checker.specs.inside.Columns.{ArePassColumns, IsPassColumn, IsPassedWalk}
use Rattle.cert_checker.proofs.ImageColumns.{one_more}
use Rattle.cert_checker.proofs.SwitchPaths.{passed_walk}
use Rattle.cert_checker.proofs.matrix.columns.Goals as goal

-- the image that is read is the one with this number
read_image : (images : List (Vec ℤ Global)) (j : ℕ) (v : Vec ℤ Global) → j < length images → v ≡ get_or images j v
    → v.items ≡ get_or (walks_of images) j []
read_image images j v below is =
    ap (λ (w : Vec ℤ Global). w.items) is ∙ sym (get_or-map (λ (w : Vec ℤ Global). w.items) images j v [] below)

pub column-requires-clause-walk : goal.column-requires-clause-walk
column-requires-clause-walk c =
    let below : c.loop-j.j < length c.args.c.now.images.items = search rules in
    let long : length (walks_of c.args.c.now.images.items) ≡ length c.args.c.now.images.items =
    length-map c.args.c.now.images.items (λ (w : Vec ℤ Global). w.items) in
    let same : c.deref.result.now ≡ c.index.result.now.items = search rules in
    subst (IsPassedWalk c.args.tri.now c.args.track.now.left_out)
    (sym (same ∙ read_image c.args.c.now.images.items c.loop-j.j c.index.result.now below c.index.ensures))
    (passed_walk c.label_laws.ensures c.surface_laws.ensures c.args.tri.now c.args.track.now
    (track_seen c.args.c.now) c.requires c.loop-j.j (omega (arith, long)))

pub loop-j-preserved : goal.loop-j-preserved
loop-j-preserved c =
    let below : c.loop-j.j < length c.args.c.now.images.items = search rules in
    let same : c.deref.result.now ≡ c.index.result.now.items = search rules in
    let pushed : c.push.new.self.items ≡ c.loop-j.columns.items ++ (c.in_ok-column.field-0 ∷ []) = search rules in
    subst
    (ArePassColumns (words_of c.args.track.now.branches) (walks_of c.args.c.now.images.items) (c.loop-j.j + 1))
    (sym pushed)
    (one_more (words_of c.args.track.now.branches) (walks_of c.args.c.now.images.items) c.loop-j.j
    c.loop-j.columns.items c.in_ok-column.field-0 c.loop-j.invariant
    (subst (λ (w : List ℤ). IsPassColumn (words_of c.args.track.now.branches) w c.in_ok-column.field-0.items)
    (same ∙ read_image c.args.c.now.images.items c.loop-j.j c.index.result.now below c.index.ensures)
    c.in_ok-column.ensures))
