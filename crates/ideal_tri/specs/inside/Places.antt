-- How a `Tri` lays out its triples: an array of them, and a table that says where each label
-- stands.
use Rattle.std.specs.Prelude.{◌≡◌, ◌≢◌, ◌<◌, ◌≤◌, ◌+◌, ◌-◌, ℕ, ℤ, pos, negsuc, List, [], ◌∷◌}
use Rattle.std.specs.Prelude.{length, take, drop, replicate, slice_set, slice_index_or, All}
use Rattle.ideal_tri.specs.declared.tri.TheConstants.{EDGES, LABELS, NOWHERE, TRIANGLES}
use Rattle.ideal_tri.specs.Labels.{inverse, edge_of}
use Rattle.ideal_tri.specs.Triangulations.{labels_of, IsLabel, triangle_of, IsTriangulation}
use Rattle.ideal_tri.specs.Refusals.{IsDistinct, IsOfGoodSize}

-- the side s of triangle t
abbrev pub label_at : List (List ℤ) → ℕ → ℕ → ℤ
label_at triples t s = slice_index_or (slice_index_or triples t []) s (pos 0)

-- the triangle on the other side of side s of triangle t
abbrev pub neighbour : List (List ℤ) → ℕ → ℕ → ℕ
neighbour triples t s = triangle_of triples (inverse (label_at triples t s))

-- where the table keeps the place of a label: x + EDGES
abbrev pub key_of : ℤ → ℕ
key_of (pos n) = n + EDGES
key_of (negsuc n) = EDGES - 1 - n

-- writes down where each label stands, from a first place on
abbrev pub with_places : List ℕ → ℕ → List ℤ → List ℕ
with_places places at [] = places
with_places places at (x ∷ xs) = with_places (slice_set places (key_of x) at) (at + 1) xs

-- for each label of at most EDGES edges its place in the list, or NOWHERE
unfoldable pub places_of : List ℤ → List ℕ
places_of xs = with_places (replicate LABELS NOWHERE) 0 xs

-- the entries of the array that hold no triangle
unfoldable pub spare_triples : ℕ → List (List ℤ)
spare_triples n = replicate n (pos 0 ∷ (pos 0 ∷ (pos 0 ∷ [])))

-- the table holds the places of these labels, which are all different
pub record IsPlaced (xs : List ℤ) (places : List ℕ) : Type 0 where
  pub room : length places ≡ LABELS
  pub table : places ≡ places_of xs
  pub free : (x : ℤ) → edge_of x < EDGES → slice_index_or places (key_of x) 0 ≡ NOWHERE → (k : ℕ)
      → k < length xs → slice_index_or xs k (pos 0) ≢ x
  pub used : (x : ℤ) → edge_of x < EDGES → slice_index_or places (key_of x) 0 ≢ NOWHERE
      → (slice_index_or places (key_of x) 0 < length xs)
      × (slice_index_or xs (slice_index_or places (key_of x) 0) (pos 0) ≡ x)
  pub distinct : IsDistinct xs

-- triples whose labels are within the range and all different, and their table of places
pub record IsGlued (triples : List (List ℤ)) (places : List ℕ) : Type 0 where
  pub size : IsOfGoodSize triples
  pub three_sides : All (λ t. length t ≡ 3) triples
  pub in_range : All (IsLabel triples) (labels_of triples)
  pub placed : IsPlaced (labels_of triples) places

-- the fields hold a triangulation of `count` triangles, and nothing else
pub record IsLaidOut (count : ℕ) (sides : List (List ℤ)) (places : List ℕ) : Type 0 where
  pub fits : count ≤ TRIANGLES
  pub room : length sides ≡ TRIANGLES
  pub spare : drop count sides ≡ spare_triples (TRIANGLES - count)
  pub glued : IsGlued (take count sides) places
  pub sound : IsTriangulation (take count sides)
