use Rattle.tri_atlas.specs.Arena.{triangulation}
use Rattle.tri_atlas.specs.Paths.{moves_of}
use Rattle.cert_text.specs.Certificates.{walks_of}
use Rattle.cert_checker.specs.FirstFailing.{AllPass}
use Rattle.cert_checker.specs.PeriodicRules.{IsMoved}
use Rattle.cert_checker.proofs.WordTurns.{Turned}
use Rattle.cert_checker.proofs.powers.check_moved.Given as goal

abbrev pub invariant-loop-i : goal.invariant-loop-i
invariant-loop-i l =
    Turned l.atlas l.word l.i l.map
    × AllPass l.i (IsMoved (triangulation l.atlas 0) (moves_of l.atlas l.word) (walks_of l.reasons))
