-- Ideal triangulations as lists of triples of labels, and walks on them.
use Rattle.std.specs.Prelude.{◌≡◌, ◌<◌, ◌*◌, ◌/◌, ℕ, suc, ℤ, Bool, List, [], ◌∷◌, length, cond}
use Rattle.std.specs.Prelude.{nat_lt, if◌then◌else◌, All}
use Rattle.std.specs.List.{flat_map, count_by, list_any}
use Rattle.std.specs.Ordering.{int_eq}
use Rattle.ideal_tri.specs.Labels.{inverse, edge_of}

-- the sides of the triangles, one after another
abbrev pub labels_of : List (List ℤ) → List ℤ
labels_of triples = flat_map (λ t. t) triples

-- how many edges the triangles have: three for each two of them
abbrev pub edge_count : List (List ℤ) → ℕ
edge_count triples = 3 * length triples / 2

-- x is one of the labels from -n to n - 1, with n edges
abbrev pub IsLabel : List (List ℤ) → ℤ → Type 0
IsLabel triples x = edge_of x < edge_count triples

-- x is a side of the triangle
abbrev pub has_side : ℤ → List ℤ → Bool
has_side x t = list_any (λ y. int_eq y x) t

-- the number of the triangle that has the side x
abbrev pub triangle_of : List (List ℤ) → ℤ → ℕ
triangle_of [] x = 0
triangle_of (t ∷ triples) x = if has_side x t then 0 else suc (triangle_of triples x)

-- the place of x among the three sides
abbrev pub place_in : List ℤ → ℤ → ℕ
place_in [] x = 0
place_in (y ∷ t) x = if int_eq y x then 0 else suc (place_in t x)

-- the place of x among the sides of its triangle
abbrev pub side_of : List (List ℤ) → ℤ → ℕ
side_of [] x = 0
side_of (t ∷ triples) x = if has_side x t then place_in t x else side_of triples x

-- the side after x, anticlockwise, in a triangle that has it
abbrev pub next_in : List ℤ → ℤ → ℤ
next_in (a ∷ (b ∷ (c ∷ []))) x = if int_eq a x then b else if int_eq b x then c else a
next_in _ x = x

-- the side after x in the triangle of x
abbrev pub next : List (List ℤ) → ℤ → ℤ
next [] x = x
next (t ∷ triples) x = if has_side x t then next_in t x else next triples x

-- the side before x in the triangle of x
abbrev pub previous : List (List ℤ) → ℤ → ℤ
previous triples x = next triples (next triples x)

-- a walk on the dual graph from triangle s to triangle t: each letter x is a step from the triangle
-- of x to that of inverse x
abbrev pub IsWalk : List (List ℤ) → ℕ → List ℤ → ℕ → Type 0
IsWalk triples s [] t = s ≡ t
IsWalk triples s (x ∷ w) t =
    IsLabel triples x × (triangle_of triples x ≡ s)
    × IsWalk triples (triangle_of triples (inverse x)) w t

-- a walk goes from triangle s to triangle t
pub record IsReached (triples : List (List ℤ)) (s t : ℕ) : Type 0 where
  pub letters : List ℤ
  pub walk : IsWalk triples s letters t

-- a gluing of triangles, along each edge once
pub record IsTriangulation (triples : List (List ℤ)) : Type 0 where
  pub some : 0 < length triples
  pub three_sides : All (λ t. length t ≡ 3) triples
  pub edges : 2 * edge_count triples ≡ 3 * length triples
  pub labels : (x : ℤ)
      → count_by (λ y. int_eq y x) (labels_of triples)
      ≡ cond (nat_lt (edge_of x) (edge_count triples)) 1 0

-- each triangle can be reached from triangle 0
pub record IsConnected (triples : List (List ℤ)) : Type 0 where
  pub reached : (t : ℕ) → t < length triples → IsReached triples 0 t
