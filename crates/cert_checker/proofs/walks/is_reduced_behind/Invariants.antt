use Rattle.std.proofs.Common.{◌↔◌, ◌∷◌, drop}
use Rattle.ideal_tri.specs.Words.{IsReduced}
use Rattle.cert_checker.proofs.walks.is_reduced_behind.Given as goal

abbrev pub invariant-loop-n : goal.invariant-loop-n
invariant-loop-n l = IsReduced (l.fn.before ∷ l.letters) ↔ IsReduced (l.last ∷ drop l.n-index l.letters)
