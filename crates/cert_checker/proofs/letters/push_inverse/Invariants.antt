use Rattle.std.proofs.Common.{◌≡◌, ◌++◌, ◌-◌, drop}
use Rattle.ideal_tri.specs.Words.{inverse_word}
use Rattle.cert_checker.proofs.letters.push_inverse.Given as goal

abbrev pub invariant-loop-k : goal.invariant-loop-k
invariant-loop-k l = l.letters.items ≡ l.fn.letters.items ++ inverse_word (drop (l.count - l.k) l.word)
