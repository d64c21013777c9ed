use Rattle.std.proofs.Common.{◌≡◌, take}
use Rattle.verdict_plan.proofs.certificates.numbers_of.Given as goal

abbrev pub invariant-loop-x : goal.invariant-loop-x
invariant-loop-x l = l.numbers.items ≡ take l.x-index l.letters
