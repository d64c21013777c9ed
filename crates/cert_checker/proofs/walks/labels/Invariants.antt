use Rattle.std.proofs.Common.{◌≡◌, take}
use Rattle.cert_checker.proofs.walks.labels.Given as goal

abbrev pub invariant-loop-n : goal.invariant-loop-n
invariant-loop-n l = l.labels.items ≡ take l.n-index l.letters
