use Rattle.std.proofs.Common.{◌<◌, ℕ}
use Rattle.cert_text.specs.Certificates.{rows_of}
use Rattle.cert_checker.specs.inside.Columns.{IsRowOf}
use Rattle.cert_checker.proofs.matrix.first_other_row.Given as goal

abbrev pub invariant-loop-i : goal.invariant-loop-i
invariant-loop-i l = (k : ℕ) → k < l.i → IsRowOf l.m (rows_of l.rows) k
