use Rattle.std.proofs.Common.{rules, ◌+◌, ℕ, List, sym, subst, arith}
use Rattle.std.specs.Prelude.{IsTrue, true, false}
use Rattle.growth_bounds.specs.inside.Reached.{IsReached}
use Rattle.growth_bounds.proofs.Rows.{next_row, not_here, none_after, grown}
use Rattle.growth_bounds.proofs.Rows.{reached_first, goes_on, found_first, none_from_four}
use Rattle.growth_bounds.proofs.rule.find_growth.Goals.{else-j-ge-FIRST-via-then-j-ge-FIRST+else-is_growing}
use Rattle.growth_bounds.proofs.rule.find_growth.Goals.{else-j-ge-FIRST-via-else-j-ge-FIRST}
use Rattle.growth_bounds.proofs.rule.find_growth.Goals as goal

pub loop-j-init : goal.loop-j-init
loop-j-init c = reached_first c.matrix_laws.ensures.column_sums c.args.m.now c.args.u.now c.requires.size.0
    c.requires.ones

pub multiply-requires-clause-size : goal.multiply-requires-clause-size
multiply-requires-clause-size c = (c.loop-j.invariant.row.size, omega (arith, c.loop-j.auto.v, c.requires.size.1))

pub multiply-requires-clause-small : goal.multiply-requires-clause-small
multiply-requires-clause-small c = c.loop-j.invariant.row.small

pub returns-then-not-multiply-clause-none : goal.returns-then-not-multiply-clause-none
returns-then-not-multiply-clause-none c none k from to =
    none_from_four c.args.m.now c.loop-j.j c.loop-j.u c.loop-j.invariant
    (none_after c.matrix_laws.ensures.sums c.matrix_laws.ensures.column_sums c.args.m.now c.loop-j.j c.loop-j.u
    c.loop-j.invariant.row (c.multiply.ensures.over c.if-not-multiply.true)) k from

pub returns-then-is_growing-clause-found : goal.returns-then-is_growing-clause-found
returns-then-is_growing-clause-found c found =
    let t : IsTrue true = search rules in
    found_first c.args.m.now c.loop-j.j c.loop-j.u c.multiply.new.v c.loop-j.invariant
    (grown c.matrix_laws.ensures.sums c.matrix_laws.ensures.column_sums c.args.m.now c.loop-j.j c.loop-j.u
    c.multiply.new.v c.loop-j.invariant.row (omega (arith, c.multiply.auto.v, c.loop-j.auto.v, c.requires.size.1))
    (c.multiply.ensures.written c.if-not-multiply.false) (c.if-is_growing.ensures.0 t))
    c.if-j-ge-FIRST.true (omega arith)

pub loop-j-preserved : goal.loop-j-preserved
loop-j-preserved c =
    let m = c.args.m.now in
    let next = next_row c.matrix_laws.ensures.sums c.matrix_laws.ensures.column_sums m c.loop-j.j c.loop-j.u
    c.multiply.new.v c.loop-j.invariant.row (omega (arith, c.multiply.auto.v, c.loop-j.auto.v, c.requires.size.1))
    (c.multiply.ensures.written c.if-not-multiply.false) in
    let P : List ℕ → Type 0 = λ u. IsReached m (c.loop-j.j + 1) u in
    let here : IsReached m (c.loop-j.j + 1) c.multiply.new.v = elim c.else-j-ge-FIRST.branch [
      | else-j-ge-FIRST-via-then-j-ge-FIRST+else-is_growing w ↦
          goes_on m c.loop-j.j c.loop-j.u c.multiply.new.v c.loop-j.invariant next
          (λ from. not_here m c.loop-j.j c.loop-j.u c.multiply.new.v c.loop-j.invariant.row next
          (λ growing. let t : IsTrue false = w.if-is_growing.ensures.1 growing in grind arith))
      | else-j-ge-FIRST-via-else-j-ge-FIRST w ↦
          goes_on m c.loop-j.j c.loop-j.u c.multiply.new.v c.loop-j.invariant next
          (λ from. absurd (let early = w.if-j-ge-FIRST.false in omega (arith, early, from)))
    ] in
    subst P (sym c.copy_from_slice.ensures.after) here

pub returns-clause-none : goal.returns-clause-none
returns-clause-none c none k from to = c.loop-j.invariant.none k from (omega arith)
