-- The components of a triangulation: classes of triangles that walks join, each named by its least.
use Rattle.std.specs.Prelude.{◌==◌, ◌||◌, ℕ, zero, suc, ℤ, List, [], Bool, length, slice_index_or}
use Rattle.std.specs.List.{count_by, list_any, position_or_len, range_with_len}
use Rattle.ideal_tri.specs.Labels.{inverse}
use Rattle.ideal_tri.specs.Triangulations.{triangle_of}

-- a walk of at most n letters goes from triangle s to triangle t
abbrev pub is_near : List (List ℤ) → ℕ → ℕ → ℕ → Bool
is_near triples zero s t = s == t
is_near triples (suc n) s t =
    (s == t)
    || list_any (λ x. is_near triples n (triangle_of triples (inverse x)) t)
    (slice_index_or triples s [])

-- a walk goes from s to t: the shortest one has fewer letters than there are triangles
abbrev pub is_reached : List (List ℤ) → ℕ → ℕ → Bool
is_reached triples s t = is_near triples (length triples) s t

-- the least triangle of the component of t
abbrev pub least_triangle : List (List ℤ) → ℕ → ℕ
least_triangle triples t =
    position_or_len (is_reached triples t) (range_with_len 0 (length triples))

-- how many triangles below k are the least of their components
abbrev pub first_triangles : List (List ℤ) → ℕ → ℕ
first_triangles triples k = count_by (λ t. least_triangle triples t == t) (range_with_len 0 k)

-- the number of the component of triangle t: how many components have a lesser least triangle
abbrev pub component_of : List (List ℤ) → ℕ → ℕ
component_of triples t = first_triangles triples (least_triangle triples t)

abbrev pub component_count : List (List ℤ) → ℕ
component_count triples = first_triangles triples (length triples)
