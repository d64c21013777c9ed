use Rattle.std.proofs.Common.{◌≡◌, ◌<◌, ◌≤◌, sym, subst, length, List, Vec, ℕ, rules, arith, sum_by}
use Rattle.std.specs.Global.{Global}
use Rattle.std.specs.List.{All}
use Rattle.transition_matrix.specs.Matrices.{IsCountOf}
use Rattle.cert_text.specs.Certificates.{rows_of}
use Rattle.verdict_plan.proofs.PassColumns.{counted, has_room, some_row}
use Rattle.verdict_plan.proofs.track_growth.transition.Goals as goal

pub from_columns-requires-clause-some : goal.from_columns-requires-clause-some
from_columns-requires-clause-some c =
    let room =
    has_room c.args.track.now c.args.c.now c.track_laws.ensures c.requires c.in_ok-columns.columns.items
    c.in_ok-columns.ensures in
    let long : c.len.result ≡ length c.in_ok-columns.columns.items = search rules in
    let some = room.some in omega (arith, long)

pub from_columns-requires-clause-entries : goal.from_columns-requires-clause-entries
from_columns-requires-clause-entries c =
    let room =
    has_room c.args.track.now c.args.c.now c.track_laws.ensures c.requires c.in_ok-columns.columns.items
    c.in_ok-columns.ensures in
    let long : c.len.result ≡ length c.in_ok-columns.columns.items = search rules in
    let same : c.deref.result.now ≡ c.in_ok-columns.columns.items = search rules in
    subst (λ (n : ℕ). All (λ (v : Vec ℕ Global). All (λ (i : ℕ). i < n) v.items) c.deref.result.now) (sym long)
    (subst (λ (vs : List (Vec ℕ Global)).
    All (λ (v : Vec ℕ Global). All (λ (i : ℕ). i < length c.in_ok-columns.columns.items) v.items) vs) (sym same)
    room.entries)

pub from_columns-requires-clause-few : goal.from_columns-requires-clause-few
from_columns-requires-clause-few c =
    let room =
    has_room c.args.track.now c.args.c.now c.track_laws.ensures c.requires c.in_ok-columns.columns.items
    c.in_ok-columns.ensures in
    let same : c.deref.result.now ≡ c.in_ok-columns.columns.items = search rules in
    subst (λ (vs : List (Vec ℕ Global)). sum_by (λ (v : Vec ℕ Global). length v.items) vs ≤ 262144) (sym same) room.few

pub returns-in-Ok-clause-counts : goal.returns-in-Ok-clause-counts
returns-in-Ok-clause-counts c =
    let same : c.deref.result.now ≡ c.in_ok-columns.columns.items = search rules in
    counted c.args.track.now c.args.c.now c.track_laws.ensures c.requires c.in_ok-columns.columns.items
    c.in_ok-columns.ensures c.in-Ok.m
    (subst (λ (vs : List (Vec ℕ Global)). IsCountOf (rows_of vs) c.in-Ok.m) same c.in-Ok.ensures)

pub returns-in-Ok-clause-some : goal.returns-in-Ok-clause-some
returns-in-Ok-clause-some c =
    let same : c.deref.result.now ≡ c.in_ok-columns.columns.items = search rules in
    some_row c.args.track.now c.args.c.now c.track_laws.ensures c.requires c.in_ok-columns.columns.items
    c.in_ok-columns.ensures c.in-Ok.m
    (subst (λ (vs : List (Vec ℕ Global)). IsCountOf (rows_of vs) c.in-Ok.m) same c.in-Ok.ensures)
