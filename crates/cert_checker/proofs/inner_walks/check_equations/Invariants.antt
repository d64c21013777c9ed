use Rattle.free_groupoid.specs.GroupoidMaps.{substitution}
use Rattle.cert_text.specs.Certificates.{walks_of}
use Rattle.cert_checker.specs.FirstFailing.{AllPass}
use Rattle.cert_checker.specs.PeriodicRules.{IsEquation}
use Rattle.cert_checker.proofs.inner_walks.check_equations.Given as goal

abbrev pub invariant-loop-e : goal.invariant-loop-e
invariant-loop-e l = AllPass l.e (IsEquation l.tri (substitution l.map.images) (walks_of l.paths))
