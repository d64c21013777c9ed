use Rattle.cert_text.specs.Certificates.{walks_of}
use Rattle.cert_checker.specs.FirstFailing.{AllPass}
use Rattle.cert_checker.specs.PeriodicRules.{IsReason}
use Rattle.cert_checker.proofs.periodic.check_reasons.Given as goal

abbrev pub invariant-loop-i : goal.invariant-loop-i
invariant-loop-i l = AllPass l.i (IsReason l.tri (walks_of l.reasons))
