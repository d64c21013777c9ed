use Rattle.std.proofs.Common.{◌≡◌, ◌++◌, ◌-◌, drop}
use Rattle.ideal_tri.specs.Words.{inverse_word}
use Rattle.free_groupoid.proofs.test_list.push_inverse.Given as goal

abbrev pub invariant-loop-k : goal.invariant-loop-k
invariant-loop-k l = l.word.items ≡ l.fn.word.items ++ inverse_word (drop (l.count - l.k) l.walk)
