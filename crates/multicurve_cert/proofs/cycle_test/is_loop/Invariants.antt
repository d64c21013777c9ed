use Rattle.multicurve_cert.proofs.CycleTests.{FollowsUpTo}
use Rattle.multicurve_cert.proofs.cycle_test.is_loop.Given as goal

abbrev pub invariant-loop-x : goal.invariant-loop-x
invariant-loop-x l = FollowsUpTo l.tri l.initial.last l.w l.last l.x-index
