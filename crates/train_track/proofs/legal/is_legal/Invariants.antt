use Rattle.std.proofs.Common.{◌≡◌, ◌<◌, ◌+◌, ℕ, pos, true, get_or}
use Rattle.train_track.specs.inside.Growing.{is_legal_pair}
use Rattle.train_track.proofs.legal.is_legal.Given as goal

abbrev pub invariant-loop-i : goal.invariant-loop-i
invariant-loop-i l =
    (k : ℕ) → k + 1
    < l.i → is_legal_pair l.tri l.left_out (get_or l.letters k (pos 0)) (get_or l.letters (k + 1) (pos 0)) ≡ true
