-- The first side of a triangle, as it is read, is one of its sides.
use Rattle.std.proofs.Common.{ℕ, ℤ, pos, List, [], ◌≡◌, ◌<◌, sym, ◌∙◌, ap, length, get_or, Some, arith}
use Rattle.std.specs.List.{slice_get}
use Rattle.std.proofs.lemmas.List.{get_or_default}
use Rattle.std.proofs.lemmas.List.Elements.{Contains-get_or}
use Rattle.std.proofs.lemmas.Option.{get_or_from_slice_get}
use Rattle.ideal_tri.specs.SurfaceLaws.{TriangleLaws}
use Rattle.ideal_tri.specs.Triangulations.{IsTriangulation, IsLabel, triangle_of}
use Rattle.tri_atlas.specs.Moves.{first_side}

-- the first of the sides that were read of triangle t
pub first_read : (triples : List (List ℤ)) (t : ℕ) (triple : List ℤ) (d : ℤ) → slice_get triples t ≡ Some triple
    → 0 < length triple
    → get_or triple 0 d ≡ first_side triples t
first_read triples t triple d read some =
    get_or_default triple 0 d (pos 0) some ∙ ap (λ (s : List ℤ). get_or s 0 (pos 0)) (sym (get_or_from_slice_get
    triples t triple [] read))

pub first_side_at : (triples : List (List ℤ)) → IsTriangulation triples → TriangleLaws triples → (t : ℕ)
    → t < length triples
    → IsLabel triples (first_side triples t) × (triangle_of triples (first_side triples t) ≡ t)
first_side_at triples sound laws t inside =
    let three : length (get_or triples t []) ≡ 3 = sound.three_sides t [] inside in
    laws.listed t (first_side triples t) inside (Contains-get_or (get_or triples t []) 0 (pos 0) (omega arith))
