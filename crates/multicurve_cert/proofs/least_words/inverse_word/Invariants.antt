use Rattle.std.proofs.Common.{◌≡◌, ◌-◌, drop}
use Rattle.ideal_tri.specs.Words.{inverse_word}
use Rattle.multicurve_cert.proofs.least_words.inverse_word.Given as goal

abbrev pub invariant-loop-k : goal.invariant-loop-k
invariant-loop-k l = l.back.items ≡ inverse_word (drop (l.count - l.k) l.w)
