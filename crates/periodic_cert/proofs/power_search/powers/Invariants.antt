use Rattle.periodic_cert.proofs.Search.{IsTried}
use Rattle.periodic_cert.proofs.power_search.powers.Given as goal

abbrev pub invariant-loop-n : goal.invariant-loop-n
invariant-loop-n l = IsTried l.atlas l.word l.cap l.n l.reasons.items l.f
