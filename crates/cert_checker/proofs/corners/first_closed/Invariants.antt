use Rattle.cert_checker.specs.FirstFailing.{AllPass}
use Rattle.cert_checker.specs.TrackRules.{IsOpenAt}
use Rattle.cert_checker.proofs.corners.first_closed.Given as goal

abbrev pub invariant-loop-v : goal.invariant-loop-v
invariant-loop-v l = AllPass l.v (IsOpenAt l.tri l.corners)
