-- The flip of an edge, and the triangulation after it.
use Rattle.std.specs.Prelude.{◌≢◌, ℤ, List, [], ◌∷◌, slice_set}
use Rattle.ideal_tri.specs.Labels.{inverse}
use Rattle.ideal_tri.specs.Triangulations.{triangle_of, next, previous}

-- the two labels of the edge stand in two triangles
abbrev pub IsFlippable : List (List ℤ) → ℤ → Type 0
IsFlippable triples e = triangle_of triples e ≢ triangle_of triples (inverse e)

-- the triangles (e,a,b) and (~e,c,d) become (e,d,a) and (~e,b,c), in the same places; the new edge
-- keeps the number
abbrev pub flipped : List (List ℤ) → ℤ → List (List ℤ)
flipped triples e =
    slice_set
    (slice_set triples (triangle_of triples e)
    (e ∷ (previous triples (inverse e) ∷ (next triples e ∷ []))))
    (triangle_of triples (inverse e))
    (inverse e ∷ (previous triples e ∷ (next triples (inverse e) ∷ [])))
