use Rattle.std.proofs.Common.{◌≡◌, ◌+◌, ◌*◌, ℕ, slice_index, add-one, ap, arith}
use Rattle.transition_matrix.specs.Matrices.{entry, sum_below}
use Rattle.growth_bounds.proofs.rule.product_at.Goals as goal

pub returns-then-sum-ge-LIMIT-clause-none : goal.returns-then-sum-ge-LIMIT-clause-none
returns-then-sum-ge-LIMIT-clause-none c =
    let f : ℕ → ℕ = λ i. slice_index c.args.u.now i * entry c.args.m.now i c.args.j in
    let more : sum_below (c.loop-i.i + 1) f ≡ sum_below c.loop-i.i f + f c.loop-i.i = ap (λ (n : ℕ). sum_below n f)
    (add-one c.loop-i.i) in
    let part = c.matrix_laws.ensures.sums.beginning (c.loop-i.i + 1) c.args.m.now.size f (omega arith) in
    let one : c.from.result * c.from-in-loop-i.result ≡ f c.loop-i.i = cc in
    let start : c.loop-i.sum ≡ sum_below c.loop-i.i f = c.loop-i.invariant.added in
    omega (arith, more, part, one, start, c.if-sum-ge-LIMIT.true)

pub loop-i-preserved : goal.loop-i-preserved
loop-i-preserved c =
    let f : ℕ → ℕ = λ i. slice_index c.args.u.now i * entry c.args.m.now i c.args.j in
    let more : sum_below (c.loop-i.i + 1) f ≡ sum_below c.loop-i.i f + f c.loop-i.i = ap (λ (n : ℕ). sum_below n f)
    (add-one c.loop-i.i) in
    let one : c.from.result * c.from-in-loop-i.result ≡ f c.loop-i.i = cc in
    let start : c.loop-i.sum ≡ sum_below c.loop-i.i f = c.loop-i.invariant.added in
    record { added = omega (arith, more, one, start); small = omega arith }
