use Rattle.std.proofs.Common.{◌<◌, ◌≤◌, arith}
use Rattle.transition_matrix.proofs.BitTables.{joined_row, other_row}
use Rattle.transition_matrix.proofs.bits.or_row.Goals as goal

pub returns-clause-here : goal.returns-clause-here
returns-clause-here c j column =
    joined_row c.args.width c.args.words.now c.args.others.now c.loop-t.words c.args.i c.args.l j column
    (λ s low. c.loop-t.invariant.joined s (omega arith))

pub returns-clause-rows : goal.returns-clause-rows
returns-clause-rows c k j apart column =
    other_row c.args.width c.args.words.now c.loop-t.words c.args.i k j apart column c.loop-t.invariant.before
    (λ p past. c.loop-t.invariant.after p (omega arith))
