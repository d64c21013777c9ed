use Rattle.multicurve_cert.proofs.WordOrder.{SameUpTo}
use Rattle.multicurve_cert.proofs.least_words.is_word_before.Given as goal

abbrev pub invariant-loop-i : goal.invariant-loop-i
invariant-loop-i l = SameUpTo l.v l.w l.i
