-- The tree of a certificate is read as the certificate, where its parts are.
use Rattle.std.proofs.Common.{◌≡◌, ℕ, ℤ, List, map, Option, Some, refl}
use Rattle.std.specs.Prelude.{Ok}
use Rattle.edge_coords.specs.declared.lines.CurveLine.{CurveLine}
use Rattle.cert_text.specs.Certificates.{CarriedTrack, Certificate, periodic, reducible, pseudo_anosov, unknown}
use Rattle.cert_text.specs.Texts.{anchors_data, capped_data, certificate_data, certificate_text, coords_data}
use Rattle.cert_text.specs.Texts.{lines_data}
use Rattle.cert_text.specs.Texts.{natural, numbers_data, track_text, walk_data, walks_data}
use Rattle.cert_text.specs.Reading.{body_of, certificate_in}
use Rattle.cert_text.specs.Shapes.{anchor_in, capped_in, coordinate_in, count_in, list_in}
use Rattle.cert_text.specs.Shapes.{track_in, walk_in}
use Rattle.cert_text.specs.declared.lines.TrackLine.{TrackLine}
use Rattle.cert_text.proofs.ReadBack.{curves_back, numbers_back, rows_back}

pub periodic_back : (order : ℕ) (paths reasons : List (List ℤ)) → count_in (natural order) ≡ Some order
    → list_in walk_in (walks_data paths) ≡ Some paths → list_in walk_in (walks_data reasons) ≡ Some reasons
    → certificate_in (certificate_data (periodic order paths reasons)) ≡ Ok (periodic order paths reasons)
periodic_back order paths reasons small p r = rw (small, p, r) refl

pub reducible_back : (coords : List ℕ) → list_in coordinate_in (coords_data coords) ≡ Some coords
    → certificate_in (certificate_data (reducible coords)) ≡ Ok (reducible coords)
reducible_back coords h = rw h refl

pub track_back_whole : (track : CarriedTrack) → count_in (natural track.exponent) ≡ Some track.exponent
    → count_in (natural track.power) ≡ Some track.power
    → list_in anchor_in (anchors_data track.anchors) ≡ Some track.anchors
    → list_in count_in (numbers_data track.flips) ≡ Some track.flips
    → list_in walk_in (walks_data track.images) ≡ Some track.images
    → walk_in (walk_data track.left_out) ≡ Some track.left_out
    → certificate_in (certificate_data (pseudo_anosov track)) ≡ Ok (pseudo_anosov track)
track_back_whole track exponent power a f i l =
    rw (
      a,
      exponent,
      f,
      i,
      l,
      rows_back track.matrix,
      power,
      numbers_back track.u,
    ) refl

pub capped_back : (power letters : ℕ) → count_in (natural power) ≡ Some power
    → capped_in (capped_data (Some (power, letters))) ≡ Some (Some (power, letters))
capped_back power letters small = rw small refl

pub unknown_back : (powers : List (List ℤ)) (capped : Option (ℕ × ℕ)) (curves : List CurveLine)
    (tracks : List TrackLine) → capped_in (capped_data capped) ≡ Some capped
    → list_in walk_in (walks_data powers) ≡ Some powers
    → list_in track_in (lines_data (map track_text tracks)) ≡ Some tracks
    → certificate_in (certificate_data (unknown powers capped curves tracks)) ≡ Ok (unknown powers capped curves tracks)
unknown_back powers capped curves tracks small p t =
    rw (small, curves_back curves, p, t) refl

-- no line is passed over
pub whole : (c : Certificate) → body_of (certificate_text c) ≡ certificate_text c
whole (periodic order paths reasons) = refl
whole (reducible coords) = refl
whole (pseudo_anosov track) = refl
whole (unknown powers capped curves tracks) = refl
