use Rattle.std.proofs.Common.{◌≡◌, ◌+◌, ℕ, List, length, replicate, sym, ◌∙◌, subst, arith}
use Rattle.std.proofs.lemmas.List.{get_or-replicate, length-replicate}
use Rattle.growth_bounds.specs.inside.Reached.{IsRow}
use Rattle.growth_bounds.proofs.Rows.{row_of_ones, next_row, counted, none_after}
use Rattle.growth_bounds.proofs.wide.write_row.Goals as goal

pub loop-init : goal.loop-init
loop-init c =
    let n : ℕ = length c.args.u.now in
    let P : List ℕ → Type 0 = λ us. IsRow c.args.m.now 0 us in
    let ones = row_of_ones c.matrix_laws.ensures.column_sums c.args.m.now (replicate n 1)
    (length-replicate n 1 ∙ c.requires.size.0)
    (λ i low. get_or-replicate n i 1 0 (omega (arith, low, c.requires.size.0))) in
    subst P (sym (c.fill.ensures.after (λ y same. same))) ones

pub multiply-requires-clause-size : goal.multiply-requires-clause-size
multiply-requires-clause-size c = (c.loop.invariant.size, omega (arith, c.loop.auto.v, c.requires.size.1))

pub multiply-requires-clause-small : goal.multiply-requires-clause-small
multiply-requires-clause-small c = c.loop.invariant.small

pub returns-then-not-multiply-clause-over : goal.returns-then-not-multiply-clause-over
returns-then-not-multiply-clause-over c over k from =
    none_after c.matrix_laws.ensures.sums c.matrix_laws.ensures.column_sums c.args.m.now c.loop.counter c.loop.u
    c.loop.invariant (c.multiply.ensures.over c.if-not-multiply.true) k (omega arith)

pub loop-preserved : goal.loop-preserved
loop-preserved c =
    let m = c.args.m.now in
    let P : List ℕ → Type 0 = λ u. IsRow m (c.loop.counter + 1) u in
    let next = next_row c.matrix_laws.ensures.sums c.matrix_laws.ensures.column_sums m c.loop.counter c.loop.u
    c.multiply.new.v c.loop.invariant (omega (arith, c.multiply.auto.v, c.loop.auto.v, c.requires.size.1))
    (c.multiply.ensures.written c.if-not-multiply.false) in
    subst P (sym c.copy_from_slice.ensures.after) (counted m c.loop.counter c.multiply.new.v next)

pub returns-clause-row : goal.returns-clause-row
returns-clause-row c done =
    let P : ℕ → Type 0 = λ j. IsRow c.args.m.now j c.loop.u in
    subst P (let e : c.loop.counter ≡ c.args.j = omega arith in e) c.loop.invariant
