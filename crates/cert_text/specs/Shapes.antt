-- What stands in the values of a certificate's JSON tree: lists, numbers, pairs, walks and lines.
use Rattle.std.specs.Prelude.{◌^◌, ◌-◌, ◌&&◌, ◌==◌, ℕ, ℤ, pos, Bool, false, not}
use Rattle.std.specs.Prelude.{List, [], ◌∷◌, length, codes, min, drop}
use Rattle.std.specs.Prelude.{Option, Some, None, option_and_then, neg_ℤ, nat_eq, nat_le}
use Rattle.std.specs.Prelude.{nat_lt, is_some, if◌then◌else◌}
use Rattle.std.specs.Int.RustNames.{int_le}
use Rattle.std.specs.List.{starts_with}
use Rattle.std.specs.Option.{option_map, option_or}
use Rattle.std.specs.Str.{all_ascii_digits, bytes_eq}
use Rattle.std.specs.Str.Parse.{digits_value}
use Rattle.serde_json.specs.Data.{Data, Items, no_items, item}
use Rattle.serde_json.specs.Find.{as_array, as_i64, as_null, as_number, as_str, as_u64, get}
use Rattle.edge_coords.specs.declared.lines.CurveLine.{CurveLine}
use Rattle.edge_coords.specs.declared.lines.CurveLine.TheVariants as curve
use Rattle.cert_text.specs.Certificates.{Anchored}
use Rattle.cert_text.specs.declared.lines.TrackLine.{TrackLine}
use Rattle.cert_text.specs.declared.lines.TrackLine.TheVariants as track

-- ---- lists

-- the entries of a list
abbrev pub entries_of : Items → List Data
entries_of no_items = []
entries_of (item d ds) = d ∷ entries_of ds

-- what f reads in each entry, if it reads something in all of them
abbrev pub all_read : {X : Type 0} → (Data → Option X) → List Data → Option (List X)
all_read f [] = Some []
all_read f (d ∷ ds) =
    option_and_then (λ x. option_map (λ xs. x ∷ xs) (all_read f ds)) (f d)

-- a list, of whose entries each is read by f
abbrev pub list_in : {X : Type 0} → (Data → Option X) → Data → Option (List X)
list_in f d = option_and_then (all_read f) (option_map entries_of (as_array d))

-- ---- numbers

abbrev pub is_small : ℤ → Bool
is_small z = int_le (neg_ℤ (pos 2147483648)) z && int_le z (pos 2147483647)

-- a whole number from -2^31 to 2^31 - 1, written with neither point nor exponent
abbrev pub integer_in : Data → Option ℤ
integer_in d =
    option_and_then (λ z. if is_small z then Some z else None)
    (option_and_then as_i64 (as_number d))

-- one from 0 to 2^64 - 1
abbrev pub natural_in : Data → Option ℕ
natural_in d = option_and_then as_u64 (as_number d)

-- one from 0 to 2^32 - 1
abbrev pub count_in : Data → Option ℕ
count_in d = option_and_then (λ n. if nat_lt n (2 ^ 32) then Some n else None) (natural_in d)

-- a list of two numbers, the first read by f
abbrev pub two_of : (Data → Option ℕ) → List Data → Option (ℕ × ℕ)
two_of f (c ∷ d ∷ []) = option_and_then (λ m. option_map (λ n. (m, n)) (natural_in d)) (f c)
two_of f _ = None

abbrev pub pair_in : (Data → Option ℕ) → Data → Option (ℕ × ℕ)
pair_in f d = option_and_then (two_of f) (option_map entries_of (as_array d))

-- null, or a power and so many letters
abbrev pub capped_in : Data → Option (Option (ℕ × ℕ))
capped_in d = if is_some (as_null d) then Some None else option_map Some (pair_in count_in d)

-- 1 to 64 decimal digits; the largest number of 128 bits stands for itself and all larger ones
abbrev pub coordinate_of : List ℕ → Option ℕ
coordinate_of text =
    if nat_le 1 (length text) && (nat_le (length text) 64 && all_ascii_digits text)
    then Some (min (digits_value 10 text) (2 ^ 128 - 1)) else None

abbrev pub coordinate_in : Data → Option ℕ
coordinate_in d = option_and_then coordinate_of (as_str d)

-- ---- walks and anchors

abbrev pub walk_in : Data → Option (List ℤ)
walk_in d = list_in integer_in d

abbrev pub anchor_in : Data → Option Anchored
anchor_in d =
    option_and_then (λ connect.
    option_and_then (λ switch.
    option_map (λ to. record { switch = switch; to = to; connect = connect })
    (option_and_then integer_in (get (codes "to") d)))
    (option_and_then integer_in (get (codes "switch") d)))
    (option_and_then walk_in (get (codes "connect") d))

-- ---- the lines of a log

abbrev pub curve_of : List ℕ → Option CurveLine
curve_of text =
    if bytes_eq text (codes "overflow") then Some curve.Overflow
    else if bytes_eq text (codes "not_multicurve") then Some curve.NotMulticurve
    else if bytes_eq text (codes "empty") then Some curve.Empty
    else if bytes_eq text (codes "moved") then Some curve.Moved else None

abbrev pub curve_in : Data → Option CurveLine
curve_in d = option_and_then curve_of (as_str d)

abbrev pub has_needless_zero : List ℕ → Bool
has_needless_zero (c ∷ d ∷ digits) = c == 48
has_needless_zero _ = false

-- the number with these decimal digits, from 0 to 2^64 - 1, the first not a needless zero
abbrev pub number_of : List ℕ → Option ℕ
number_of text =
    if (all_ascii_digits text && not (has_needless_zero text))
    && (nat_lt 0 (length text) && nat_lt (digits_value 10 text) (2 ^ 64))
    then Some (digits_value 10 text) else None

-- what stands behind the name and a space
abbrev pub behind : List ℕ → List ℕ → Option (List ℕ)
behind name text =
    if starts_with nat_eq text name then Some (drop (length name) text) else None

-- the line, of the number behind its name
abbrev pub numbered : List ℕ → (ℕ → TrackLine) → List ℕ → Option TrackLine
numbered name line text = option_map line (option_and_then number_of (behind name text))

abbrev pub track_of : List ℕ → Option TrackLine
track_of text =
    option_or (numbered (codes "two_left_out ") track.TwoLeftOut text)
    (option_or (numbered (codes "vertex_closed ") track.VertexClosed text)
    (option_or (numbered (codes "cap ") track.Cap text)
    (option_or (numbered (codes "no_common ") track.NoCommon text)
    (option_or (numbered (codes "illegal ") track.Illegal text)
    (option_or (numbered (codes "paths_cap ") track.PathsCap text)
    (if bytes_eq text (codes "not_primitive") then Some track.NotPrimitive
    else if bytes_eq text (codes "no_bounds") then Some track.NoBounds else None))))))

abbrev pub track_in : Data → Option TrackLine
track_in d = option_and_then track_of (as_str d)
