-- Branches as they are found, each from its first two letters.
use Rattle.std.specs.Prelude.{◌&&◌, ℤ, Bool, not, List, [], ◌∷◌, ◌++◌, nat_lt, if◌then◌else◌}
use Rattle.std.specs.List.{flat_map}
use Rattle.std.specs.Ordering.{int_eq}
use Rattle.ideal_tri.specs.Labels.{inverse}
use Rattle.ideal_tri.specs.Triangulations.{next, previous}
use Rattle.ideal_tri.specs.Vertices.{rank, ordered_labels}
use Rattle.train_track.specs.Tracks.{is_left_out, is_switch}
use Rattle.train_track.specs.Branches.{are_before}

-- the test of IsLegalPair
unfoldable pub is_legal_pair : List (List ℤ) → List ℤ → ℤ → ℤ → Bool
is_legal_pair triples left_out u v =
    if int_eq (next triples (inverse u)) v then not (is_left_out left_out (inverse u))
    else (int_eq (next triples v) (inverse u) && not (is_left_out left_out v))

-- a letter that u may be followed by: past an edge that is no switch the only one
unfoldable pub continuation : List (List ℤ) → List ℤ → ℤ → ℤ
continuation triples left_out u =
    if is_left_out left_out (inverse u) then previous triples (inverse u) else next triples
    (inverse u)

-- the branch with these first two letters
unfoldable pub grow : List (List ℤ) → List ℤ → ℤ → ℤ → List ℤ
grow triples left_out x y =
    if is_switch triples left_out y then x ∷ (y ∷ [])
    else (x ∷ (y ∷ (continuation triples left_out y ∷ [])))

-- whether its inverse is found before it
unfoldable pub is_found : List (List ℤ) → List ℤ → ℤ → ℤ → Bool
is_found triples left_out x y =
    if is_switch triples left_out y then are_before (inverse y) (inverse x) x y
    else are_before (inverse (continuation triples left_out y)) (inverse y) x y

-- whether there is one that is listed
unfoldable pub is_listed : List (List ℤ) → List ℤ → ℤ → ℤ → Bool
is_listed triples left_out x y =
    is_legal_pair triples left_out x y && not (is_found triples left_out x y)

-- the branches with these first two letters that are listed: one or none
unfoldable pub listed : List (List ℤ) → List ℤ → ℤ → ℤ → List (List ℤ)
listed triples left_out x y =
    if is_listed triples left_out x y then grow triples left_out x y ∷ [] else []

-- the sides of the triangle that x leads to, but for the one crossed, in the order of labels
abbrev pub lesser_side : List (List ℤ) → ℤ → ℤ
lesser_side triples x =
    let p : ℤ = inverse x in
    if nat_lt (rank (previous triples p)) (rank (next triples p)) then previous triples p else next
    triples p

abbrev pub greater_side : List (List ℤ) → ℤ → ℤ
greater_side triples x =
    let p : ℤ = inverse x in
    if nat_lt (rank (previous triples p)) (rank (next triples p)) then next triples p else previous
    triples p

-- those with the first letter x
unfoldable pub listed_from : List (List ℤ) → List ℤ → ℤ → List (List ℤ)
listed_from triples left_out x =
    if is_switch triples left_out x then
    listed triples left_out x (lesser_side triples x) ++ listed triples left_out x
    (greater_side triples x)
    else []

-- all of them
abbrev pub branch_words : List (List ℤ) → List ℤ → List (List ℤ)
branch_words triples left_out = flat_map (listed_from triples left_out) (ordered_labels triples)
