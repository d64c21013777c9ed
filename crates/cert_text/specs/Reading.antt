-- The certificate that a text is read as, or its first refusal.
use Rattle.std.specs.Prelude.{◌≡◌, ◌⊎◌, ◌==◌, ℕ, List, [], ◌∷◌, codes, Option}
use Rattle.std.specs.Prelude.{Some, None, option_and_then, ok_or}
use Rattle.std.specs.Prelude.{Result, Ok, Err, if◌then◌else◌, IsUtf8}
use Rattle.std.specs.Str.{bytes_eq}
use Rattle.serde_json.specs.Data.{Data}
use Rattle.serde_json.specs.Find.{as_object, as_str, get}
use Rattle.serde_json.specs.Read.{read}
use Rattle.cert_text.specs.Certificates.{Certificate, CarriedTrack}
use Rattle.cert_text.specs.Certificates.{periodic, reducible, pseudo_anosov, unknown}
use Rattle.cert_text.specs.Shapes.{anchor_in, capped_in, coordinate_in, count_in, curve_in, list_in}
use Rattle.cert_text.specs.Shapes.{natural_in, pair_in, track_in, walk_in}
use Rattle.cert_text.specs.declared.cert_error.CertError.{CertError}
use Rattle.cert_text.specs.declared.cert_error.CertError.TheVariants.{NotJson, MissingKey, BadShape}
use Rattle.cert_text.specs.declared.cert_error.CertKey.{CertKey}
use Rattle.cert_text.specs.declared.cert_error.CertKey.TheVariants as key
use Rattle.cert_text.specs.declared.cert_keys.Kind.{Kind}
use Rattle.cert_text.specs.declared.cert_keys.Kind.TheVariants as kind

-- ---- the values at the keys

-- the next step, where the one before it has no refusal
abbrev pub if_ok : {X Y E : Type 0} → Result X E → (X → Result Y E) → Result Y E
if_ok (Ok x) next = next x
if_ok (Err refusal) next = Err refusal

-- what is read in the value at this key
abbrev pub at_key : {X : Type 0} → CertKey → List ℕ → (Data → Option X) → Data → Result X CertError
at_key k spelt shape d =
    if_ok (ok_or (get spelt d) (MissingKey k)) (λ v. ok_or (shape v) (BadShape k))

abbrev pub kind_of : List ℕ → Option Kind
kind_of text =
    if bytes_eq text (codes "periodic") then Some kind.Periodic
    else if bytes_eq text (codes "reducible") then Some kind.Reducible
    else if bytes_eq text (codes "pseudo-anosov") then Some kind.PseudoAnosov
    else if bytes_eq text (codes "unknown") then Some kind.Unknown else None

abbrev pub kind_in : Data → Option Kind
kind_in d = option_and_then kind_of (as_str d)

-- ---- the kinds, key by key

abbrev pub periodic_in : Data → Result Certificate CertError
periodic_in d =
    if_ok (at_key key.Order (codes "order") count_in d) (λ order.
    if_ok (at_key key.Paths (codes "paths") (list_in walk_in) d) (λ paths.
    if_ok (at_key key.Reasons (codes "reasons") (list_in walk_in) d) (λ reasons.
    Ok (periodic order paths reasons))))

abbrev pub reducible_in : Data → Result Certificate CertError
reducible_in d =
    if_ok (at_key key.Coords (codes "coords") (list_in coordinate_in) d) (λ coords.
    Ok (reducible coords))

abbrev pub track_of_keys : Data → Result CarriedTrack CertError
track_of_keys d =
    if_ok (at_key key.Anchors (codes "anchors") (list_in anchor_in) d) (λ anchors.
    if_ok (at_key key.Exponent (codes "exponent") count_in d) (λ exponent.
    if_ok (at_key key.Flips (codes "flips") (list_in count_in) d) (λ flips.
    if_ok (at_key key.High (codes "high") (pair_in natural_in) d) (λ high.
    if_ok (at_key key.Images (codes "images") (list_in walk_in) d) (λ images.
    if_ok (at_key key.LeftOut (codes "left_out") walk_in d) (λ left_out.
    if_ok (at_key key.Low (codes "low") (pair_in natural_in) d) (λ low.
    if_ok (at_key key.Matrix (codes "matrix") (list_in (list_in natural_in)) d) (λ matrix.
    if_ok (at_key key.Power (codes "power") count_in d) (λ power.
    if_ok (at_key key.U (codes "u") (list_in natural_in) d) (λ u.
    Ok (record {
      power = power;
      flips = flips;
      left_out = left_out;
      anchors = anchors;
      images = images;
      matrix = matrix;
      exponent = exponent;
      u = u;
      low = low;
      high = high;
    })))))))))))

abbrev pub unknown_in : Data → Result Certificate CertError
unknown_in d =
    if_ok (at_key key.Capped (codes "capped") capped_in d) (λ capped.
    if_ok (at_key key.Curves (codes "curves") (list_in curve_in) d) (λ curves.
    if_ok (at_key key.Powers (codes "powers") (list_in walk_in) d) (λ powers.
    if_ok (at_key key.Tracks (codes "tracks") (list_in track_in) d) (λ tracks.
    Ok (unknown powers capped curves tracks)))))

abbrev pub of_kind : Data → Kind → Result Certificate CertError
of_kind d kind.Periodic = periodic_in d
of_kind d kind.Reducible = reducible_in d
of_kind d kind.PseudoAnosov = if_ok (track_of_keys d) (λ track. Ok (pseudo_anosov track))
of_kind d kind.Unknown = unknown_in d

-- the certificate of a tree: an object, of whose keys the kind is read first
abbrev pub certificate_in : Data → Result Certificate CertError
certificate_in d =
    if_ok (ok_or (as_object d) (BadShape key.File)) (λ _.
    if_ok (at_key key.Kind (codes "kind") kind_in d) (of_kind d))

-- ---- the bytes

-- what stands behind the first end of line, which has the code 10
abbrev pub behind_line : List ℕ → List ℕ
behind_line [] = []
behind_line (b ∷ bytes) = if b == 10 then bytes else behind_line bytes

-- a line is passed over where the first byte isn't an opening brace, which has the code 123
abbrev pub body_of : List ℕ → List ℕ
body_of [] = []
body_of (b ∷ bytes) = if b == 123 then b ∷ bytes else behind_line (b ∷ bytes)

-- the bytes are JSON of this tree
pub record IsTree (text : List ℕ) (d : Data) : Type 0 where
  pub utf8 : IsUtf8 text
  pub parsed : read text ≡ Some d

-- what the bytes are read as
abbrev pub IsReadingOf : List ℕ → Result Certificate CertError → Type 0
IsReadingOf bytes r =
    (((d : Data) → ¬ IsTree (body_of bytes) d) × (r ≡ Err NotJson))
    ⊎ ((d : Data) × IsTree (body_of bytes) d × (r ≡ certificate_in d))
