use Rattle.std.proofs.Common.{◌≡◌, ℕ, ℤ, Vec, Global, List, Some, subst}
use Rattle.cert_text.specs.Certificates.{anchors_seen, track_seen, walks_of}
use Rattle.cert_text.specs.Shapes.{anchor_in, count_in, list_in, walk_in}
use Rattle.cert_text.specs.Texts.{anchors_data, numbers_data, walk_data, walks_data}
use Rattle.cert_text.specs.declared.carried_track.Anchor.{Anchor}
use Rattle.cert_text.proofs.CertificatesBack.{track_back_whole}
use Rattle.cert_text.proofs.text.carried_value.Goals as goal

pub returns-clause-read_back : goal.returns-clause-read_back
returns-clause-read_back c =
    let anchors =
    subst (λ (xs : List Anchor). list_in anchor_in (anchors_data (anchors_seen xs)) ≡ Some (anchors_seen xs))
    c.deref.ensures.value c.in_ok-anchors.ensures.read_back in
    let flips =
    subst (λ (xs : List ℕ). list_in count_in (numbers_data xs) ≡ Some xs) c.deref-2.ensures.value
    c.in_ok-flips.ensures.read_back in
    let images =
    subst (λ (xs : List (Vec ℤ Global)). list_in walk_in (walks_data (walks_of xs)) ≡ Some (walks_of xs))
    c.deref-3.ensures.value c.in_ok-images.ensures.read_back in
    let left_out =
    subst (λ (xs : List ℤ). walk_in (walk_data xs) ≡ Some xs) c.deref-4.ensures.value
    c.in_ok-left_out.ensures.read_back in
    track_back_whole (track_seen c.args.track.now) c.count_value-exponent.ensures.read_back c.count_value-power.ensures.read_back
    anchors flips images left_out
