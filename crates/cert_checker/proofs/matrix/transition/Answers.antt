use Rattle.std.proofs.Common.{◌≡◌, ◌<◌, ◌≤◌, sym, subst, length, List, Vec, ℕ, ℤ, rules, arith, sum_by}
use Rattle.std.specs.Global.{Global}
use Rattle.std.specs.List.{All}
use Rattle.std.proofs.lemmas.List.{length-map}
use Rattle.transition_matrix.specs.Matrices.{IsCountOf}
use Rattle.cert_text.specs.Certificates.{rows_of, track_seen, walks_of}
use Rattle.cert_checker.proofs.ImageColumns.{counted, has_room}
use Rattle.cert_checker.proofs.matrix.transition.Goals as goal

all_images : (images : List (Vec ℤ Global)) → length images ≡ length (walks_of images)
all_images images = sym (length-map images (λ (w : Vec ℤ Global). w.items))

pub from_columns-requires-clause-some : goal.from_columns-requires-clause-some
from_columns-requires-clause-some c =
    let room =
    has_room c.args.tri.now c.args.track.now (track_seen c.args.c.now) c.track_laws.ensures c.requires
    (length c.args.c.now.images.items) (all_images c.args.c.now.images.items) c.in_ok-columns.columns.items
    c.in_ok-columns.ensures in
    let long : c.len.result ≡ length c.in_ok-columns.columns.items = search rules in
    let some = room.some in omega (arith, long)

pub from_columns-requires-clause-entries : goal.from_columns-requires-clause-entries
from_columns-requires-clause-entries c =
    let room =
    has_room c.args.tri.now c.args.track.now (track_seen c.args.c.now) c.track_laws.ensures c.requires
    (length c.args.c.now.images.items) (all_images c.args.c.now.images.items) c.in_ok-columns.columns.items
    c.in_ok-columns.ensures in
    let long : c.len.result ≡ length c.in_ok-columns.columns.items = search rules in
    let same : c.deref.result.now ≡ c.in_ok-columns.columns.items = search rules in
    subst (λ (n : ℕ). All (λ (v : Vec ℕ Global). All (λ (i : ℕ). i < n) v.items) c.deref.result.now) (sym long)
    (subst (λ (vs : List (Vec ℕ Global)).
    All (λ (v : Vec ℕ Global). All (λ (i : ℕ). i < length c.in_ok-columns.columns.items) v.items) vs) (sym same)
    room.entries)

pub from_columns-requires-clause-few : goal.from_columns-requires-clause-few
from_columns-requires-clause-few c =
    let room =
    has_room c.args.tri.now c.args.track.now (track_seen c.args.c.now) c.track_laws.ensures c.requires
    (length c.args.c.now.images.items) (all_images c.args.c.now.images.items) c.in_ok-columns.columns.items
    c.in_ok-columns.ensures in
    let same : c.deref.result.now ≡ c.in_ok-columns.columns.items = search rules in
    subst (λ (vs : List (Vec ℕ Global)). sum_by (λ (v : Vec ℕ Global). length v.items) vs ≤ 262144) (sym same) room.few

pub returns-in-Ok : goal.returns-in-Ok
returns-in-Ok c =
    let same : c.deref.result.now ≡ c.in_ok-columns.columns.items = search rules in
    counted c.args.tri.now c.args.track.now (track_seen c.args.c.now) c.track_laws.ensures c.requires
    (length c.args.c.now.images.items) (all_images c.args.c.now.images.items) c.in_ok-columns.columns.items
    c.in_ok-columns.ensures c.in-Ok.m
    (subst (λ (vs : List (Vec ℕ Global)). IsCountOf (rows_of vs) c.in-Ok.m) same c.in-Ok.ensures)
