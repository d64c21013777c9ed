-- The fields of coordinates are those that their numbers give.
use Rattle.std.proofs.Common.{ℕ, List, ◌++◌, ◌≡◌, ◌≤◌, ◌-◌, sym, ◌∙◌, ap, arith, length, take}
use Rattle.std.proofs.lemmas.List.{length-take-le, take-append-drop}
use Rattle.ideal_tri.specs.declared.tri.TheConstants.{EDGES}
use Rattle.edge_coords.specs.inside.LaidOut.{IsLaidOut, spare_numbers}

pub count_again : (count : ℕ) (numbers : List ℕ) → IsLaidOut count numbers
    → length (take count numbers) ≡ count
count_again count numbers h =
    let fits : count ≤ EDGES = h.fits in
    let room : length numbers ≡ EDGES = h.room in
    length-take-le count numbers (omega arith)

pub numbers_again : (count : ℕ) (numbers : List ℕ) → IsLaidOut count numbers
    → take count numbers ++ spare_numbers (EDGES - length (take count numbers)) ≡ numbers
numbers_again count numbers h =
    ap (λ (n : ℕ). take count numbers ++ spare_numbers (EDGES - n)) (count_again count numbers h)
    ∙ ap (λ (z : List ℕ). take count numbers ++ z) (sym h.spare)
    ∙ take-append-drop count numbers
