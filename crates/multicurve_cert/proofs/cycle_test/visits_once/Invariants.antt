use Rattle.multicurve_cert.proofs.CycleTests.{OnceUpTo}
use Rattle.multicurve_cert.proofs.cycle_test.visits_once.Given as goal

abbrev pub invariant-loop-i : goal.invariant-loop-i
invariant-loop-i l = OnceUpTo l.tri l.w l.i
