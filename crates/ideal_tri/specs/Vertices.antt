-- The vertices (punctures) of a triangulation, found by turning round its corners, and the genus.
use Rattle.std.specs.Prelude.{◌≡◌, ◌+◌, ◌-◌, ◌*◌, ◌/◌, ◌%◌, ◌==◌, ℕ, zero, suc, ℤ, pos, negsuc}
use Rattle.std.specs.Prelude.{List, length, map, filter, position, nat_lt, unwrap_or, if◌then◌else◌}
use Rattle.std.specs.List.{range_with_len}
use Rattle.std.specs.Ordering.{int_eq}
use Rattle.ideal_tri.specs.Labels.{inverse}
use Rattle.ideal_tri.specs.Triangulations.{edge_count, next}
use Rattle.ideal_tri.specs.Components.{component_count}

-- ---- the order of labels: 0, -1, 1, -2, 2 and so on

abbrev pub rank : ℤ → ℕ
rank (pos n) = 2 * n
rank (negsuc n) = 2 * n + 1

-- the label of this rank
abbrev pub label_of_rank : ℕ → ℤ
label_of_rank k = if k % 2 == 0 then pos (k / 2) else negsuc (k / 2)

-- all labels, in their order
abbrev pub ordered_labels : List (List ℤ) → List ℤ
ordered_labels triples = map label_of_rank (range_with_len 0 (2 * edge_count triples))

-- ---- corners. The corner named x lies between x and the side after it, at the head of x

-- the next corner round the same vertex
abbrev pub corner_step : List (List ℤ) → ℤ → ℤ
corner_step triples x = inverse (next triples x)

-- the corner so many steps on
abbrev pub corner_after : List (List ℤ) → ℕ → ℤ → ℤ
corner_after triples zero x = x
corner_after triples (suc n) x = corner_after triples n (corner_step triples x)

-- the two corners lie at one vertex
pub record IsSameVertex (triples : List (List ℤ)) (x y : ℤ) : Type 0 where
  pub steps : ℕ
  pub reached : corner_after triples steps x ≡ y

-- ---- vertices. Each is named by its least corner

abbrev pub least_label : ℤ → ℤ → ℤ
least_label x y = if nat_lt (rank y) (rank x) then y else x

-- the least corner among x and those up to so many steps on
abbrev pub least_within : List (List ℤ) → ℕ → ℤ → ℤ
least_within triples zero x = x
least_within triples (suc n) x = least_label x (least_within triples n (corner_step triples x))

-- the least corner at the vertex of x: there are no more corners than labels
abbrev pub least_corner : List (List ℤ) → ℤ → ℤ
least_corner triples x = least_within triples (2 * edge_count triples) x

-- the corners that are the least of their vertices, in order
abbrev pub first_corners : List (List ℤ) → List ℤ
first_corners triples = filter (λ x. int_eq (least_corner triples x) x) (ordered_labels triples)

-- those among the labels of rank less than k
abbrev pub first_corners_below : List (List ℤ) → ℕ → List ℤ
first_corners_below triples k =
    filter (λ x. int_eq (least_corner triples x) x) (map label_of_rank (range_with_len 0 k))

-- the number of the vertex at the corner x: how many first corners come before its least one
abbrev pub vertex_of : List (List ℤ) → ℤ → ℕ
vertex_of triples x =
    unwrap_or (position (λ y. int_eq y (least_corner triples x)) (first_corners triples)) 0

abbrev pub vertex_count : List (List ℤ) → ℕ
vertex_count triples = length (first_corners triples)

-- the sum of the components' genera, from the Euler characteristic of the closed surface with C
-- components: vertices - edges + triangles = 2 C - 2 genus
abbrev pub genus : List (List ℤ) → ℕ
genus triples =
    (2 * component_count triples + edge_count triples - length triples - vertex_count triples) / 2
