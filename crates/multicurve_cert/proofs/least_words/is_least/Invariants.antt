use Rattle.multicurve_cert.proofs.WordRotations.{NoneBefore}
use Rattle.multicurve_cert.proofs.least_words.is_least.Given as goal

abbrev pub invariant-loop-k : goal.invariant-loop-k
invariant-loop-k l = NoneBefore l.w l.back.items l.k
