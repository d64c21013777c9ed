use Rattle.std.proofs.Common.{◌≡◌, take}
use Rattle.free_groupoid.specs.MapRefusals.{told}
use Rattle.cert_text.specs.Certificates.{anchors_seen}
use Rattle.cert_text.specs.PseudoAnosov.{letters_of_words}
use Rattle.cert_checker.specs.inside.TrackParts.{connections}
use Rattle.cert_checker.proofs.anchors.letters_to_connect.Given as goal

abbrev pub invariant-loop-anchor : goal.invariant-loop-anchor
invariant-loop-anchor l =
    l.letters ≡ told (letters_of_words (take l.anchor-index (connections (anchors_seen l.anchors))))
