-- The tree of a certificate nests at most four deep, so that its text is read as it.
use Rattle.std.proofs.Common.{◌≤◌, ℕ, max, ℤ, pos, negsuc, List, [], ◌∷◌, map, Option, Some, None, arith}
use Rattle.std.specs.Fmt.{decimal}
use Rattle.serde_json.specs.Data.{Data, string, depth, items_depth}
use Rattle.cert_text.specs.Certificates.{Anchored, Certificate, periodic, reducible, pseudo_anosov, unknown}
use Rattle.cert_text.specs.Texts.{list_of, integer, natural, walk_data}
use Rattle.cert_text.specs.Texts.{numbers_data, anchor_data, capped_data, certificate_data}
use Rattle.cert_text.specs.Texts.{curve_text, track_text}

higher : (a b k : ℕ) → a ≤ k → b ≤ k → max a b ≤ k
higher a b k h i = grind (arith)

list_nests : {X : Type 0} (f : X → Data) (k : ℕ) (xs : List X) → ((x : X) → depth (f x) ≤ k)
    → items_depth (list_of (map f xs)) ≤ k
list_nests f k [] each = omega arith
list_nests f k (x ∷ xs) each = higher _ _ k (each x) (list_nests f k xs each)

flat : (z : ℤ) → depth (integer z) ≤ 0
flat (pos n) = omega arith
flat (negsuc n) = omega arith

-- the entries of the list of a walk, of walks, and so on
walk_nests : (walk : List ℤ) → items_depth (list_of (map integer walk)) ≤ 0
walk_nests walk = list_nests integer 0 walk flat

walks_nest : (walks : List (List ℤ)) → items_depth (list_of (map walk_data walks)) ≤ 1
walks_nest walks = list_nests walk_data 1 walks (λ walk. let h = walk_nests walk in omega (arith, h))

lines_nest : (lines : List (List ℕ)) → items_depth (list_of (map string lines)) ≤ 0
lines_nest lines = list_nests string 0 lines (λ line. omega arith)

coords_nest : (coords : List ℕ) → items_depth (list_of (map (λ n. string (decimal n)) coords)) ≤ 0
coords_nest coords = list_nests (λ n. string (decimal n)) 0 coords (λ n. omega arith)

numbers_nest : (numbers : List ℕ) → items_depth (list_of (map natural numbers)) ≤ 0
numbers_nest numbers = list_nests natural 0 numbers (λ n. omega arith)

rows_nest : (rows : List (List ℕ)) → items_depth (list_of (map numbers_data rows)) ≤ 1
rows_nest rows = list_nests numbers_data 1 rows (λ row. let h = numbers_nest row in omega (arith, h))

anchor_nests : (a : Anchored) → depth (anchor_data a) ≤ 2
anchor_nests a =
    let walk = walk_nests a.connect in
    let switch = flat a.switch in
    let to = flat a.to in grind (arith)

anchors_nest : (anchors : List Anchored) → items_depth (list_of (map anchor_data anchors)) ≤ 2
anchors_nest anchors = list_nests anchor_data 2 anchors anchor_nests

capped_nests : (capped : Option (ℕ × ℕ)) → depth (capped_data capped) ≤ 1
capped_nests None = omega arith
capped_nests (Some c) = omega arith

pub nests : (c : Certificate) → depth (certificate_data c) ≤ 127
nests (periodic order paths reasons) =
    let a = walks_nest paths in
    let b = walks_nest reasons in grind (arith)
nests (reducible coords) = let a = coords_nest coords in grind (arith)
nests (pseudo_anosov track) =
    let a = anchors_nest track.anchors in
    let b = numbers_nest track.flips in
    let d = walks_nest track.images in
    let e = walk_nests track.left_out in
    let f = rows_nest track.matrix in
    let g = numbers_nest track.u in grind (arith)
nests (unknown powers capped curves tracks) =
    let a = capped_nests capped in
    let b = lines_nest (map curve_text curves) in
    let d = walks_nest powers in
    let e = lines_nest (map track_text tracks) in grind (arith)
