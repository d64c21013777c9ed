use Rattle.cert_checker.specs.FirstFailing.{AllPass}
use Rattle.cert_checker.specs.TrackRules.{IsCornerAt}
use Rattle.cert_checker.proofs.corners.first_misplaced.Given as goal

abbrev pub invariant-loop-i : goal.invariant-loop-i
invariant-loop-i l = AllPass l.i (IsCornerAt l.tri l.corners)
