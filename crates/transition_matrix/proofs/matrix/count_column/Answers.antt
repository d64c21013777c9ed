use Rattle.std.proofs.Common.{◌≡◌, ◌<◌, ◌≤◌, ◌*◌, ◌+◌, ℕ, length, All, slice_index, slice_index_or, count_by, take}
use Rattle.std.proofs.Common.{nat_eq, refl, ◌∙◌, ap, subst, arith, w64, Fits}
use Rattle.std.proofs.lemmas.List.{take_all}
use Rattle.transition_matrix.proofs.Places.{counted_more, counted_others, count_small}
use Rattle.transition_matrix.proofs.matrix.count_column.Goals as goal

pub loop-i-init : goal.loop-i-init
loop-i-init c = (c.requires.zero, λ i k row column apart. refl)

pub overflow_add-entries-in-loop-i : goal.overflow_add-entries-in-loop-i
overflow_add-entries-in-loop-i c =
    let row = c.requires.rows c.loop-i.i-index 0 c.loop-i-test.true in
    let is = c.loop-i.invariant.0 (slice_index c.args.column.now c.loop-i.i-index) row in
    let small = count_small (nat_eq (slice_index c.args.column.now c.loop-i.i-index)) c.args.column.now
    c.loop-i.i-index (omega arith) in
    omega arith

pub loop-i-preserved : goal.loop-i-preserved
loop-i-preserved c =
    let row = c.requires.rows c.loop-i.i-index 0 c.loop-i-test.true in (
      counted_more c.args.n c.args.j _ c.loop-i.i-index c.loop-i.entries c.args.column.now
          c.requires.within row c.loop-i-test.true refl (omega arith) c.loop-i.invariant.0,
      λ i k low column apart.
          counted_others c.args.n c.args.j _ c.loop-i.i-index c.loop-i.entries c.args.column.now
          c.requires.within row c.loop-i-test.true refl (omega arith) i k column apart
          ∙ c.loop-i.invariant.1 i k low column apart,
    )

pub returns-clause-counted : goal.returns-clause-counted
returns-clause-counted c i low =
    c.loop-i.invariant.0 i low ∙ ap (count_by (nat_eq i)) (take_all _ c.args.column.now (omega arith))

pub returns-clause-others : goal.returns-clause-others
returns-clause-others c = c.loop-i.invariant.1
