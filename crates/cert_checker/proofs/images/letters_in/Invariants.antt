use Rattle.std.proofs.Common.{◌≡◌, take}
use Rattle.free_groupoid.specs.MapRefusals.{told}
use Rattle.cert_text.specs.Certificates.{walks_of}
use Rattle.cert_text.specs.PseudoAnosov.{letters_of_words}
use Rattle.cert_checker.proofs.images.letters_in.Given as goal

abbrev pub invariant-loop-word : goal.invariant-loop-word
invariant-loop-word l = l.letters ≡ told (letters_of_words (take l.word-index (walks_of l.words)))
