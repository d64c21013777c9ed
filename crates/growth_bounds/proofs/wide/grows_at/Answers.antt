use Rattle.std.proofs.Common.{rules, sym, subst, arith}
use Rattle.std.specs.Prelude.{IsTrue, true, false}
use Rattle.growth_bounds.proofs.Rows.{next_row, not_here, none_after, grown}
use Rattle.growth_bounds.proofs.wide.grows_at.Goals as goal

pub multiply-requires-clause-size : goal.multiply-requires-clause-size
multiply-requires-clause-size c =
    ((c.write_row.ensures.row c.if-not-write_row.false).size, omega (arith, c.write_row.auto.v, c.requires.size.1))

pub multiply-requires-clause-small : goal.multiply-requires-clause-small
multiply-requires-clause-small c = (c.write_row.ensures.row c.if-not-write_row.false).small

pub returns-then-not-write_row-clause-stays : goal.returns-then-not-write_row-clause-stays
returns-then-not-write_row-clause-stays c stays =
    c.write_row.ensures.over c.if-not-write_row.true c.args.j (omega arith)

pub returns-then-not-multiply-clause-stays : goal.returns-then-not-multiply-clause-stays
returns-then-not-multiply-clause-stays c stays =
    none_after c.matrix_laws.ensures.sums c.matrix_laws.ensures.column_sums c.args.m.now c.args.j c.write_row.new.u
    (c.write_row.ensures.row c.if-not-write_row.false) (c.multiply.ensures.over c.if-not-multiply.true) c.args.j
    (omega arith)

pub returns-clause-grows : goal.returns-clause-grows
returns-clause-grows c grows =
    let t : IsTrue true = search rules in
    grown c.matrix_laws.ensures.sums c.matrix_laws.ensures.column_sums c.args.m.now c.args.j c.write_row.new.u
    c.multiply.new.v (c.write_row.ensures.row c.if-not-write_row.false)
    (omega (arith, c.multiply.auto.v, c.write_row.auto.v, c.requires.size.1))
    (c.multiply.ensures.written c.if-not-multiply.false) (c.is_growing.ensures.0 (subst IsTrue (sym grows) t))

pub returns-clause-stays : goal.returns-clause-stays
returns-clause-stays c stays =
    let row = c.write_row.ensures.row c.if-not-write_row.false in
    not_here c.args.m.now c.args.j c.write_row.new.u c.multiply.new.v row
    (next_row c.matrix_laws.ensures.sums c.matrix_laws.ensures.column_sums c.args.m.now c.args.j c.write_row.new.u
    c.multiply.new.v row (omega (arith, c.multiply.auto.v, c.write_row.auto.v, c.requires.size.1))
    (c.multiply.ensures.written c.if-not-multiply.false))
    (λ growing. let t : IsTrue false = subst IsTrue stays (c.is_growing.ensures.1 growing) in grind arith)
