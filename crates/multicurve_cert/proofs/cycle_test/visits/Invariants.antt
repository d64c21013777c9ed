use Rattle.multicurve_cert.proofs.CycleTests.{VisitsNot}
use Rattle.multicurve_cert.proofs.cycle_test.visits.Given as goal

abbrev pub invariant-loop-x : goal.invariant-loop-x
invariant-loop-x l = VisitsNot l.tri l.w l.t l.x-index
