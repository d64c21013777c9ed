use Rattle.std.proofs.Common.{map}
use Rattle.transition_matrix.proofs.Counted.{IsCounted}
use Rattle.transition_matrix.proofs.matrix.Matrix.from_columns.Given as goal

abbrev pub invariant-loop-j : goal.invariant-loop-j
invariant-loop-j l = IsCounted l.n (map (λ c. c.items) l.columns) l.j l.entries.items
