-- Moves from one triangulation to another: flips, backward flips and relabellings.
use Rattle.std.specs.Prelude.{◌≡◌, ℕ, ℤ, pos, List, [], ◌∷◌, map, reverse, slice_index_or}
use Rattle.ideal_tri.specs.Labels.{inverse}
use Rattle.ideal_tri.specs.Triangulations.{IsTriangulation, IsLabel, triangle_of, next, previous}
use Rattle.ideal_tri.specs.Relabellings.{image_of, inverse_images, IsRelabelling}
use Rattle.ideal_tri.specs.Flips.{IsFlippable, flipped}

-- a flip with the sides (e,a,b) and (~e,c,d) before it; a backward flip, which names the sides as
-- its flip did; and a relabelling, which lists the images of the labels 0 to n - 1
pub data Move : Type 0 where
  flip : (e a b c d : ℤ) → Move
  unflip : (e a b c d : ℤ) → Move
  relabel : (images : List ℤ) → Move

-- the label is flippable, and these are the sides of its two triangles
pub record IsFlip (before after : List (List ℤ)) (e a b c d : ℤ) : Type 0 where
  pub label : IsLabel before e
  pub flippable : IsFlippable before e
  pub side_a : a ≡ next before e
  pub side_b : b ≡ previous before e
  pub side_c : c ≡ next before (inverse e)
  pub side_d : d ≡ previous before (inverse e)
  pub result : after ≡ flipped before e

-- the move leads from one triangulation to the other
abbrev pub IsMove : List (List ℤ) → List (List ℤ) → Move → Type 0
IsMove before after (flip e a b c d) = IsFlip before after e a b c d
IsMove before after (unflip e a b c d) = IsFlip after before e a b c d
IsMove before after (relabel images) = IsRelabelling before after images

-- the same move, the other way
abbrev pub back_of : Move → Move
back_of (flip e a b c d) = unflip e a b c d
back_of (unflip e a b c d) = flip e a b c d
back_of (relabel images) = relabel (inverse_images images)

-- the moves follow each other, from triangulation to triangulation
abbrev pub ArePath : List (List ℤ) → List Move → List (List ℤ) → Type 0
ArePath before [] after = before ≡ after
ArePath before (m ∷ moves) after =
    (between : List (List ℤ)) × IsTriangulation between × IsMove before between m
    × ArePath between moves after

-- the moves backwards
abbrev pub back_along : List Move → List Move
back_along moves = reverse (map back_of moves)

-- the first side of the triangle with this number
abbrev pub first_side : List (List ℤ) → ℕ → ℤ
first_side triples t = slice_index_or (slice_index_or triples t []) 0 (pos 0)

-- where the triangle with this number goes: a flip leaves triangles in their places, a relabelling
-- moves a triangle to that of the images of its sides
abbrev pub triangle_image : List (List ℤ) → List (List ℤ) → Move → ℕ → ℕ
triangle_image before target (flip e a b c d) t = t
triangle_image before target (unflip e a b c d) t = t
triangle_image before target (relabel images) t =
    triangle_of target (image_of images (first_side before t))
