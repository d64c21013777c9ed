use Rattle.verdict_plan.proofs.MatrixRows.{AreFirstRows}
use Rattle.verdict_plan.proofs.track_certificate.entries_of.Given as goal

abbrev pub invariant-loop-i : goal.invariant-loop-i
invariant-loop-i l = AreFirstRows l.m l.i l.rows.items
