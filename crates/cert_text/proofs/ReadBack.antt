-- What is written of a certificate's parts is read as them.
--
-- A number is the value of its decimal digits, of which the first is a zero only where it is the only one. So a
-- coordinate, and the number of a line, are read back from their texts (`coordinate_back`, `number_back`). A list is read
-- back entry by entry: as a loop goes (`back_more`, `back_all`), or at once (`list_back`).
use Rattle.std.proofs.Common.{◌≡◌, ◌<◌, ◌≤◌, ◌+◌, ◌-◌, ◌^◌, ℕ, zero, suc, ℤ, pos, negsuc, List, [], ◌∷◌, ◌++◌}
use Rattle.std.proofs.Common.{length, map, take, get_or, min, true, false, nat_le, nat_lt, Option, Some}
use Rattle.std.proofs.Common.{option_and_then, refl, sym, ap, subst, ◌∙◌, arith, w32}
use Rattle.std.specs.Prelude.{FitsSigned}
use Rattle.std.specs.Fmt.{decimal}
use Rattle.std.specs.Option.{option_map}
use Rattle.std.specs.Str.{all_ascii_digits}
use Rattle.std.specs.Str.Parse.{digits_value}
use Rattle.std.proofs.lemmas.Bool.{ne_eqb}
use Rattle.std.proofs.lemmas.Bool.Decides.{nat_tests}
use Rattle.std.proofs.lemmas.Fmt.{decimal_is_IsNumeral_wide, decimal_digit, first_decimal, length-decimal-le_wide}
use Rattle.std.proofs.lemmas.List.{map-append, get_or-map, take_more, take_all}
use Rattle.std.proofs.lemmas.Str.Parse.{IsNumeralModel, numerals_by_value, tells_all_ascii_digits}
use Rattle.std.proofs.Math.Nat.{min-eq_left}
use Rattle.serde_json.specs.Data.{Data, array, number, string}
use Rattle.serde_json.specs.Find.{of_integer}
use Rattle.cert_text.specs.declared.lines.TrackLine.{TrackLine}
use Rattle.cert_text.specs.declared.lines.TrackLine.TheVariants as track
use Rattle.edge_coords.specs.declared.lines.CurveLine.{CurveLine}
use Rattle.edge_coords.specs.declared.lines.CurveLine.TheVariants as curve
use Rattle.cert_text.specs.Texts.{list_of, integer, natural, coords_data, curve_text, lines_data, numbers_data, rows_data}
use Rattle.cert_text.specs.Texts.{track_text}
use Rattle.cert_text.specs.Shapes.{entries_of, all_read, list_in, integer_in, is_small, natural_in, count_in, coordinate_of}
use Rattle.cert_text.specs.Shapes.{coordinate_in, curve_in, has_needless_zero, number_of, track_of}
use Rattle.cert_text.proofs.Entries.{all_read-append}
use Rattle.cert_text.proofs.Lists.{in_one}

-- ---- lists

entries_of-list_of : (ds : List Data) → entries_of (list_of ds) ≡ ds
entries_of-list_of [] = refl
entries_of-list_of (d ∷ ds) = ap (λ (es : List Data). d ∷ es) (entries_of-list_of ds)

as_list : {X : Type 0} (f : Data → Option X) (ds : List Data) → list_in f (array (list_of ds)) ≡ all_read f ds
as_list f ds = ap (all_read f) (entries_of-list_of ds)

all_back : {X : Type 0} (f : Data → Option X) (g : X → Data) (xs : List X) → ((x : X) → f (g x) ≡ Some x)
    → all_read f (map g xs) ≡ Some xs
all_back f g [] each = refl
all_back f g (x ∷ xs) each = rw (each x, all_back f g xs each) refl

-- where each entry is read back, whatever it is
pub list_back : {X : Type 0} (f : Data → Option X) (g : X → Data) → ((x : X) → f (g x) ≡ Some x) → (xs : List X)
    → list_in f (array (list_of (map g xs))) ≡ Some xs
list_back f g each xs = as_list f (map g xs) ∙ all_back f g xs each

-- where each entry of this list is
all_back_at : {X : Type 0} (f : Data → Option X) (g : X → Data) (d : X) (xs : List X)
    → ((i : ℕ) → i < length xs → f (g (get_or xs i d)) ≡ Some (get_or xs i d)) → all_read f (map g xs) ≡ Some xs
all_back_at f g d [] each = refl
all_back_at f g d (x ∷ xs) each =
    let first : f (g x) ≡ Some x = each 0 (omega arith) in
    let rest : all_read f (map g xs) ≡ Some xs = all_back_at f g d xs (λ i l. each (suc i) (omega arith)) in
    rw (first, rest) refl

pub list_back_at : {X : Type 0} (f : Data → Option X) (g : X → Data) (d : X) (xs : List X)
    → ((i : ℕ) → i < length xs → f (g (get_or xs i d)) ≡ Some (get_or xs i d))
    → list_in f (array (list_of (map g xs))) ≡ Some xs
list_back_at f g d xs each = as_list f (map g xs) ∙ all_back_at f g d xs each

-- ---- numbers

pub same_number : (z : ℤ) → number (of_integer z) ≡ integer z
same_number (pos n) = refl
same_number (negsuc n) = refl

pub integer_back : (z : ℤ) → FitsSigned w32 z → integer_in (integer z) ≡ Some z
integer_back (pos n) h =
    let a : nat_lt n (2 ^ 63) ≡ true = grind (arith, nat_tests) in
    let b : is_small (pos n) ≡ true = grind (arith, nat_tests) in
    rw (a, b) refl
integer_back (negsuc n) h = let b : is_small (negsuc n) ≡ true = grind (arith, nat_tests) in rw b refl

pub count_back : (n : ℕ) → n < 2 ^ 32 → count_in (natural n) ≡ Some n
count_back n h = let a : nat_lt n (2 ^ 32) ≡ true = grind (arith, nat_tests) in rw a refl

-- as a loop goes
pub back_more : {X : Type 0} (f : Data → Option X) (g : X → Data) (xs : List X) (i : ℕ) (x d : X) → i < length xs
    → x ≡ get_or xs i d → all_read f (map g (take i xs)) ≡ Some (take i xs) → f (g x) ≡ Some x
    → all_read f (map g (take (i + 1) xs)) ≡ Some (take (i + 1) xs)
back_more f g xs i x d h is so_far now =
    let more = take_more xs i d h ∙ ap (λ (z : _). take i xs ++ z ∷ []) (sym is) in
    ap (λ (z : List _). all_read f (map g z)) more
    ∙ ap (all_read f) (map-append g (take i xs) (x ∷ []))
    ∙ all_read-append f (map g (take i xs)) (g x)
    ∙ ap (option_and_then (λ ys. option_map (λ y. ys ++ y ∷ []) (f (g x)))) so_far
    ∙ ap (option_map (λ y. take i xs ++ y ∷ [])) now
    ∙ ap Some (sym more)

pub back_all : {X : Type 0} (f : Data → Option X) (g : X → Data) (xs : List X) (i : ℕ) → length xs ≤ i
    → all_read f (map g (take i xs)) ≡ Some (take i xs) → list_in f (array (list_of (map g xs))) ≡ Some xs
back_all f g xs i h so_far =
    as_list f (map g xs)
    ∙ ap (λ (z : List _). all_read f (map g z)) (sym (take_all i xs h))
    ∙ so_far
    ∙ ap Some (take_all i xs h)

pub numbers_back : (ns : List ℕ) → list_in natural_in (numbers_data ns) ≡ Some ns
numbers_back ns = list_back natural_in natural (λ n. refl) ns

pub rows_back : (rows : List (List ℕ)) → list_in (list_in natural_in) (rows_data rows) ≡ Some rows
rows_back rows = list_back (list_in natural_in) numbers_data numbers_back rows

pub counts_back : (ns : List ℕ) → ((i : ℕ) → get_or ns i 0 < 2 ^ 32) → list_in count_in (numbers_data ns) ≡ Some ns
counts_back ns small = list_back_at count_in natural 0 ns (λ i l. count_back (get_or ns i 0) (small i))

-- ---- digits

own : IsNumeralModel (λ ds. all_ascii_digits ds ≡ true) (digits_value 10)
own = numerals_by_value _ tells_all_ascii_digits

digits_of_decimal : (n : ℕ) → n < 10 ^ 64 → (all_ascii_digits (decimal n) ≡ true) × (digits_value 10 (decimal n) ≡ n)
digits_of_decimal n h = let k = decimal_is_IsNumeral_wide n h in (own.from (decimal n) k.0.1, k.1)

pub coordinate_back : (n : ℕ) → n < 2 ^ 128 → coordinate_of (decimal n) ≡ Some n
coordinate_back n h =
    let small : n < 10 ^ 64 = omega (arith, h) in
    let k = digits_of_decimal n small in
    let some : nat_le 1 (length (decimal n)) ≡ true =
    let one : 0 < length (decimal n) = (decimal_is_IsNumeral_wide n small).0.0 in grind (arith, nat_tests) in
    let short : nat_le (length (decimal n)) 64 ≡ true =
    let few : length (decimal n) ≤ 64 = length-decimal-le_wide 64 n (omega arith) small small in
    grind (arith, nat_tests) in
    rw (some, short, k.0)
    (ap (λ (v : ℕ). Some (min v (2 ^ 128 - 1))) k.1 ∙ ap Some (min-eq_left (omega (arith, h))))

pub coords_back : (coords : List ℕ) → ((i : ℕ) → get_or coords i 0 < 2 ^ 128)
    → list_in coordinate_in (coords_data coords) ≡ Some coords
coords_back coords small =
    list_back_at coordinate_in (λ n. _) 0 coords (λ i l. coordinate_back (get_or coords i 0) (small i))

no_needless_zero : (ds : List ℕ) → 48 < get_or ds 0 0 → has_needless_zero ds ≡ false
no_needless_zero [] h = refl
no_needless_zero (d ∷ []) h = refl
no_needless_zero (d ∷ e ∷ ds) h = ne_eqb d 48 (λ is. omega arith)

none_in_decimal : (n : ℕ) → n < 2 ^ 64 → has_needless_zero (decimal n) ≡ false
none_in_decimal zero h = ap has_needless_zero (decimal_digit 0 (omega arith))
none_in_decimal (suc n) h = no_needless_zero (decimal (suc n)) (first_decimal (suc n) (omega arith) h)

pub number_back : (n : ℕ) → n < 2 ^ 64 → number_of (decimal n) ≡ Some n
number_back n h =
    let k = digits_of_decimal n (omega (arith, h)) in
    let some : nat_lt 0 (length (decimal n)) ≡ true =
    let one : 0 < length (decimal n) = (decimal_is_IsNumeral_wide n (omega (arith, h))).0.0 in
    grind (arith, nat_tests) in
    let value : nat_lt (digits_value 10 (decimal n)) (2 ^ 64) ≡ true = rw k.1 (grind (arith, nat_tests)) in
    rw (k.0, none_in_decimal n h, some, value) (ap Some k.1)

-- ---- lines on curves

curve_back : (line : CurveLine) → curve_in (string (curve_text line)) ≡ Some line
curve_back curve.Overflow = refl
curve_back curve.NotMulticurve = refl
curve_back curve.Empty = refl
curve_back curve.Moved = refl

pub curves_back : (lines : List CurveLine) → list_in curve_in (lines_data (map curve_text lines)) ≡ Some lines
curves_back lines =
    ap (list_in curve_in) (sym (in_one curve_text string lines))
    ∙ list_back curve_in (λ line. string (curve_text line)) curve_back lines

-- ---- lines on tracks

-- the number of a line is below 2^64
abbrev pub HasSmallNumber : TrackLine → Type 0
HasSmallNumber (track.TwoLeftOut n) = n < 2 ^ 64
HasSmallNumber (track.VertexClosed n) = n < 2 ^ 64
HasSmallNumber (track.Cap n) = n < 2 ^ 64
HasSmallNumber (track.NoCommon n) = n < 2 ^ 64
HasSmallNumber (track.Illegal n) = n < 2 ^ 64
HasSmallNumber (track.PathsCap n) = n < 2 ^ 64
HasSmallNumber track.NotPrimitive = Unit {0}
HasSmallNumber track.NoBounds = Unit {0}

pub track_back : (line : TrackLine) → HasSmallNumber line → track_of (track_text line) ≡ Some line
track_back (track.TwoLeftOut n) h = rw (number_back n h) refl
track_back (track.VertexClosed n) h = rw (number_back n h) refl
track_back (track.Cap n) h = rw (number_back n h) refl
track_back (track.NoCommon n) h = rw (number_back n h) refl
track_back (track.Illegal n) h = rw (number_back n h) refl
track_back (track.PathsCap n) h = rw (number_back n h) refl
track_back track.NotPrimitive h = refl
track_back track.NoBounds h = refl

pub track_back_as : (line other : TrackLine) → line ≡ other → HasSmallNumber other
    → track_of (track_text line) ≡ Some line
track_back_as line other is h =
    subst (λ (l : TrackLine). track_of (track_text l) ≡ Some l) (sym is) (track_back other h)

-- an entry of a list, seen by s
pub seen_at : {X Y : Type 0} (s : X → Y) (xs : List X) (i : ℕ) (x d : X) → i < length xs → x ≡ get_or xs i d
    → s x ≡ get_or (map s xs) i (s d)
seen_at s xs i x d h is = ap s is ∙ sym (get_or-map s xs i d (s d) h)
