use Rattle.std.proofs.Common.{◌≡◌, ap, sym, ◌∙◌, arith, false}
use Rattle.std.specs.Prelude.{nat_eq}
use Rattle.std.specs.List.{list_any}
use Rattle.train_track.proofs.LeftOut.{least_closed, all_opened}
use Rattle.train_track.proofs.corners.first_closed.Goals as goal

pub returns-then-not-contains-clause-some : goal.returns-then-not-contains-clause-some
returns-then-not-contains-clause-some c =
    let none : list_any (λ u. nat_eq u c.loop-v.v-counter) c.in_ok-vertices.vertices.items ≡ false =
    ap (list_any (λ u. nat_eq u c.loop-v.v-counter)) (sym c.deref.ensures.value)
    ∙ sym c.contains.ensures.value
    ∙ c.if-not-contains.true in
    least_closed c.args.tri.now c.args.left_out.now c.label_laws.ensures
    (c.vertex_laws.ensures.vertices c.args.tri.now c.requires.sound) c.requires.labels c.loop-v.v-counter
    c.in_ok-vertices.vertices.items c.in_ok-vertices.ensures (omega arith) none c.loop-v.invariant

pub returns-clause-none : goal.returns-clause-none
returns-clause-none c =
    all_opened c.args.tri.now c.args.left_out.now c.label_laws.ensures
    (c.vertex_laws.ensures.vertices c.args.tri.now c.requires.sound) c.requires.labels c.loop-v.v-counter
    c.in_ok-vertices.vertices.items c.in_ok-vertices.ensures (omega arith) c.loop-v.invariant
