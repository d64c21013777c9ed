use Rattle.std.proofs.Common.{◌<◌, ℕ}
use Rattle.cert_text.specs.Certificates.{track_seen}
use Rattle.cert_text.specs.PseudoAnosov.{matrix_of}
use Rattle.cert_checker.specs.TrackRules.{IsBoundedAt}
use Rattle.cert_checker.proofs.growth.check_growth.Given as goal

abbrev pub invariant-loop-i : goal.invariant-loop-i
invariant-loop-i l = (k : ℕ) → k < l.i → IsBoundedAt (matrix_of (track_seen l.c)) (track_seen l.c) k
