use Rattle.cert_checker.proofs.WordTurns.{Turned}
use Rattle.cert_checker.proofs.powers.power.Given as goal

abbrev pub invariant-loop-i : goal.invariant-loop-i
invariant-loop-i l = Turned l.atlas l.word l.i l.map
