use Rattle.std.proofs.Common.{◌≡◌, ◌*◌, take, drop}
use Rattle.verdict_plan.proofs.track_certificate.row_of.Given as goal

abbrev pub invariant-loop-j : goal.invariant-loop-j
invariant-loop-j l = l.row.items ≡ take l.j (drop (l.i * l.m.size) l.m.entries)
