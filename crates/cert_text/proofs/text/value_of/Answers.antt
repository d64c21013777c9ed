use Rattle.std.proofs.Common.{◌≡◌, ℤ, Vec, Global, List, Some, Ok, ap, map, subst, sym}
use Rattle.cert_text.specs.Certificates.{Certificate, seen, walks_of}
use Rattle.cert_text.specs.Reading.{certificate_in}
use Rattle.cert_text.specs.Shapes.{list_in, track_in, walk_in}
use Rattle.cert_text.specs.Texts.{certificate_data, lines_data, track_text, walks_data}
use Rattle.cert_text.specs.declared.lines.TrackLine.{TrackLine}
use Rattle.cert_text.proofs.CertificatesBack.{unknown_back}
use Rattle.cert_text.proofs.text.value_of.Goals as goal

pub returns-in_ok-unknown_value-in-Unknown-clause-read_back :
    goal.returns-in_ok-unknown_value-in-Unknown-clause-read_back
returns-in_ok-unknown_value-in-Unknown-clause-read_back c =
    let powers =
    subst (λ (xs : List (Vec ℤ Global)). list_in walk_in (walks_data (walks_of xs)) ≡ Some (walks_of xs))
    c.deref-in-Unknown.ensures.value c.in_ok-powers-in-Unknown.ensures.read_back in
    let tracks =
    subst (λ (xs : List TrackLine). list_in track_in (lines_data (map track_text xs)) ≡ Some xs)
    c.deref-in-Unknown-3.ensures.value c.in_ok-tracks-in-Unknown.ensures.read_back in
    subst (λ (k : Certificate). certificate_in (certificate_data k) ≡ Ok k) (sym (ap seen c.in-Unknown.is))
    (unknown_back _ _ _ _ c.in_ok-capped-in-Unknown.ensures.read_back powers tracks)
