-- The fields of a `Tri` are those that its triples give.
use Rattle.std.proofs.Common.{ℕ, ℤ, List, ◌++◌, ◌≡◌, ◌≤◌, ◌-◌, sym, ◌∙◌, ap, arith, length, take}
use Rattle.std.proofs.lemmas.List.{length-take-le, take-append-drop}
use Rattle.ideal_tri.specs.declared.tri.TheConstants.{TRIANGLES}
use Rattle.ideal_tri.specs.inside.Places.{IsLaidOut, spare_triples}

pub count_again : (count : ℕ) (sides : List (List ℤ)) (places : List ℕ)
    → IsLaidOut count sides places → length (take count sides) ≡ count
count_again count sides places h =
    let fits : count ≤ TRIANGLES = h.fits in
    let room : length sides ≡ TRIANGLES = h.room in
    length-take-le count sides (omega arith)

pub sides_again : (count : ℕ) (sides : List (List ℤ)) (places : List ℕ)
    → IsLaidOut count sides places
    → take count sides ++ spare_triples (TRIANGLES - length (take count sides)) ≡ sides
sides_again count sides places h =
    ap (λ (n : ℕ). take count sides ++ spare_triples (TRIANGLES - n))
    (count_again count sides places h)
    ∙ ap (λ (z : List (List ℤ)). take count sides ++ z) (sym h.spare)
    ∙ take-append-drop count sides
