-- Paths of flips, given by the numbers of the edges that are flipped.
use Rattle.std.specs.Prelude.{◌<◌, ℕ, ℤ, pos, List, [], ◌∷◌}
use Rattle.ideal_tri.specs.Flips.{IsFlippable, flipped}
use Rattle.ideal_tri.specs.Triangulations.{edge_count}
use Rattle.tri_atlas.specs.Arena.{flip_of}
use Rattle.tri_atlas.specs.Moves.{Move}

-- an edge between two different triangles
abbrev pub IsFlippableEdge : List (List ℤ) → ℕ → Type 0
IsFlippableEdge triples e = (e < edge_count triples) × IsFlippable triples (pos e)

-- each of the edges is one where it is flipped
abbrev pub CanBeFlipped : List (List ℤ) → List ℕ → Type 0
CanBeFlipped triples [] = Unit {0}
CanBeFlipped triples (e ∷ edges) =
    IsFlippableEdge triples e × CanBeFlipped (flipped triples (pos e)) edges

-- the moves of the flips, one after another
abbrev pub flips_along : List (List ℤ) → List ℕ → List Move
flips_along triples [] = []
flips_along triples (e ∷ edges) =
    flip_of triples (pos e) ∷ flips_along (flipped triples (pos e)) edges

-- the triangulation that they lead to
abbrev pub flipped_along : List (List ℤ) → List ℕ → List (List ℤ)
flipped_along triples [] = triples
flipped_along triples (e ∷ edges) = flipped_along (flipped triples (pos e)) edges
