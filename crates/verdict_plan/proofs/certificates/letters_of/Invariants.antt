use Rattle.std.proofs.Common.{◌≡◌, take}
use Rattle.cert_text.specs.Certificates.{walks_of}
use Rattle.periodic_cert.specs.PowerAnswers.{letters_of_walks}
use Rattle.verdict_plan.proofs.certificates.letters_of.Given as goal

abbrev pub invariant-loop-walk : goal.invariant-loop-walk
invariant-loop-walk l = walks_of l.lists.items ≡ letters_of_walks (take l.walk-index l.walks)
