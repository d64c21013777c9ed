use Rattle.std.proofs.Common.{◌≡◌, length}
use Rattle.cert_text.specs.Reading.{behind_line}
use Rattle.cert_text.proofs.reader.behind_line.Given as goal

abbrev pub invariant-loop-rest : goal.invariant-loop-rest
invariant-loop-rest l = behind_line l.bytes ≡ behind_line l.rest

abbrev pub decreases-loop-rest : goal.decreases-loop-rest
decreases-loop-rest l = length l.rest
