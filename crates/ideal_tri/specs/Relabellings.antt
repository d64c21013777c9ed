-- Relabellings: bijections of the labels of one triangulation onto those of another that carry
-- triangles to triangles.
use Rattle.std.specs.Prelude.{◌≡◌, ◌<◌, ℕ, suc, ℤ, pos, negsuc, List, [], ◌∷◌, length, map, nat_eq}
use Rattle.std.specs.Prelude.{slice_index_or, if◌then◌else◌, All, Any, count_by}
use Rattle.std.specs.List.{range_with_len}
use Rattle.std.specs.Ordering.{int_eq}
use Rattle.ideal_tri.specs.Labels.{inverse, edge_of}
use Rattle.ideal_tri.specs.Words.{IsRotation, cyclic_reduce}
use Rattle.ideal_tri.specs.Triangulations.{IsLabel, edge_count}

-- the image of a label, where the images of the labels 0, 1, .. are listed: inverse labels have
-- inverse images
abbrev pub image_of : List ℤ → ℤ → ℤ
image_of images (pos n) = slice_index_or images n (pos 0)
image_of images (negsuc n) = inverse (slice_index_or images n (pos 0))

-- how many of the labels are of the edge e
abbrev pub hits : List ℤ → ℕ → ℕ
hits images e = count_by (λ x. nat_eq (edge_of x) e) images

-- ---- bijections of labels, and their inverses

-- the images of a bijection of the labels of so many edges: each edge is hit once
pub record IsBijection (images : List ℤ) : Type 0 where
  pub labels : All (λ x. edge_of x < length images) images
  pub once : (e : ℕ) → e < length images → hits images e ≡ 1

-- the label whose image is x, the first one found in the images of the labels n, n + 1, ..
abbrev pub origin_from : ℕ → List ℤ → ℤ → ℤ
origin_from n [] x = x
origin_from n (y ∷ images) x =
    if int_eq y x then pos n
    else if int_eq y (inverse x) then negsuc n else origin_from (suc n) images x

abbrev pub origin_of : List ℤ → ℤ → ℤ
origin_of images x = origin_from 0 images x

-- the images under the bijection backwards: of each label the one whose image it is
abbrev pub inverse_images : List ℤ → List ℤ
inverse_images images = map (λ n. origin_of images (pos n)) (range_with_len 0 (length images))

-- ---- relabellings

-- the triple is one of the triangles, up to rotation
abbrev pub IsTriangleOf : List (List ℤ) → List ℤ → Type 0
IsTriangleOf triples t = Any (λ u. IsRotation t u) triples

-- the image of the triangle t of `from` is a triangle of `to`
abbrev pub IsCarried : List (List ℤ) → List ℤ → List ℤ → Type 0
IsCarried to images t = IsTriangleOf to (map (image_of images) t)

-- the images of the labels 0, 1, .. of `from` in a relabelling of `from` onto `to`
pub record IsRelabelling (from to : List (List ℤ)) (images : List ℤ) : Type 0 where
  pub one_per_edge : length images ≡ edge_count from
  pub labels : All (IsLabel to) images
  pub bijective : (e : ℕ) → e < edge_count to → hits images e ≡ 1
  pub triangles : All (IsCarried to images) from

-- the images of closed words: the map of a relabelling goes letter by letter, and each image is
-- cyclically reduced
abbrev pub reduced_images : List ℤ → List (List ℤ) → List (List ℤ)
reduced_images images words = map (λ v. cyclic_reduce (map (image_of images) v)) words
