-- The text of a certificate: the compact JSON of an object with its keys in alphabetical order.
use Rattle.std.specs.Prelude.{◌++◌, ℕ, ℤ, pos, negsuc, List, [], ◌∷◌, map, codes, Option, Some, None}
use Rattle.std.specs.Fmt.{decimal}
use Rattle.serde_json.specs.Data.{Data, null, number, string, array, object, unsigned, negative}
use Rattle.serde_json.specs.Data.{Items, no_items, item, Members, no_members, member}
use Rattle.serde_json.specs.Written.{compact_text}
use Rattle.edge_coords.specs.declared.lines.CurveLine.{CurveLine}
use Rattle.edge_coords.specs.declared.lines.CurveLine.TheVariants as curve
use Rattle.cert_text.specs.Certificates.{Anchored, Certificate}
use Rattle.cert_text.specs.Certificates.{periodic, reducible, pseudo_anosov, unknown}
use Rattle.cert_text.specs.declared.lines.TrackLine.{TrackLine}
use Rattle.cert_text.specs.declared.lines.TrackLine.TheVariants as track

-- ---- the lines of a log

abbrev pub curve_text : CurveLine → List ℕ
curve_text curve.Overflow = codes "overflow"
curve_text curve.NotMulticurve = codes "not_multicurve"
curve_text curve.Empty = codes "empty"
curve_text curve.Moved = codes "moved"

abbrev pub with_number : List ℕ → ℕ → List ℕ
with_number name n = name ++ codes " " ++ decimal n

abbrev pub track_text : TrackLine → List ℕ
track_text (track.TwoLeftOut n) = with_number (codes "two_left_out") n
track_text (track.VertexClosed n) = with_number (codes "vertex_closed") n
track_text (track.Cap n) = with_number (codes "cap") n
track_text (track.NoCommon n) = with_number (codes "no_common") n
track_text (track.Illegal n) = with_number (codes "illegal") n
track_text (track.PathsCap n) = with_number (codes "paths_cap") n
track_text track.NotPrimitive = codes "not_primitive"
track_text track.NoBounds = codes "no_bounds"

-- ---- values

abbrev pub list_of : List Data → Items
list_of [] = no_items
list_of (d ∷ ds) = item d (list_of ds)

abbrev pub natural : ℕ → Data
natural n = number (unsigned n)

abbrev pub integer : ℤ → Data
integer (pos n) = number (unsigned n)
integer (negsuc n) = number (negative (negsuc n))

-- a walk is the list of its letters
abbrev pub walk_data : List ℤ → Data
walk_data letters = array (list_of (map integer letters))

abbrev pub walks_data : List (List ℤ) → Data
walks_data walks = array (list_of (map walk_data walks))

abbrev pub lines_data : List (List ℕ) → Data
lines_data lines = array (list_of (map string lines))

-- coordinates are texts of decimal digits
abbrev pub coords_data : List ℕ → Data
coords_data coords = array (list_of (map (λ n. string (decimal n)) coords))

abbrev pub numbers_data : List ℕ → Data
numbers_data numbers = array (list_of (map natural numbers))

-- a matrix is the list of its rows
abbrev pub rows_data : List (List ℕ) → Data
rows_data rows = array (list_of (map numbers_data rows))

-- a list of the two
abbrev pub pair_data : ℕ × ℕ → Data
pair_data c = numbers_data (c.0 ∷ c.1 ∷ [])

-- null, or a list of the power and the letters
abbrev pub capped_data : Option (ℕ × ℕ) → Data
capped_data None = null
capped_data (Some c) = pair_data c

-- ---- certificates

abbrev pub members_of : List (List ℕ × Data) → Members
members_of [] = no_members
members_of (m ∷ ms) = member m.0 m.1 (members_of ms)

abbrev pub anchor_data : Anchored → Data
anchor_data a =
    object
    (members_of
    ((codes "connect", walk_data a.connect)
    ∷ (codes "switch", integer a.switch)
    ∷ (codes "to", integer a.to)
    ∷ []))

abbrev pub anchors_data : List Anchored → Data
anchors_data anchors = array (list_of (map anchor_data anchors))

abbrev pub certificate_data : Certificate → Data
certificate_data (periodic order paths reasons) =
    object
    (members_of
    ((codes "kind", string (codes "periodic"))
    ∷ (codes "order", natural order)
    ∷ (codes "paths", walks_data paths)
    ∷ (codes "reasons", walks_data reasons)
    ∷ []))
certificate_data (reducible coords) =
    object
    (members_of
    ((codes "coords", coords_data coords)
    ∷ (codes "kind", string (codes "reducible"))
    ∷ []))
certificate_data (pseudo_anosov track) =
    object
    (members_of
    ((codes "anchors", anchors_data track.anchors)
    ∷ (codes "exponent", natural track.exponent)
    ∷ (codes "flips", numbers_data track.flips)
    ∷ (codes "high", pair_data track.high)
    ∷ (codes "images", walks_data track.images)
    ∷ (codes "kind", string (codes "pseudo-anosov"))
    ∷ (codes "left_out", walk_data track.left_out)
    ∷ (codes "low", pair_data track.low)
    ∷ (codes "matrix", rows_data track.matrix)
    ∷ (codes "power", natural track.power)
    ∷ (codes "u", numbers_data track.u)
    ∷ []))
certificate_data (unknown powers capped curves tracks) =
    object
    (members_of
    ((codes "capped", capped_data capped)
    ∷ (codes "curves", lines_data (map curve_text curves))
    ∷ (codes "kind", string (codes "unknown"))
    ∷ (codes "powers", walks_data powers)
    ∷ (codes "tracks", lines_data (map track_text tracks))
    ∷ []))

abbrev pub certificate_text : Certificate → List ℕ
certificate_text c = compact_text (certificate_data c)
