use Rattle.free_groupoid.specs.GroupoidMaps.{vertex_image}
use Rattle.cert_text.specs.Certificates.{walks_of}
use Rattle.cert_checker.specs.FirstFailing.{AllPass}
use Rattle.cert_checker.specs.PeriodicRules.{IsPathFrom}
use Rattle.cert_checker.proofs.inner_walks.check_paths.Given as goal

abbrev pub invariant-loop-t : goal.invariant-loop-t
invariant-loop-t l = AllPass l.t (IsPathFrom l.tri (vertex_image l.map) (walks_of l.paths))
