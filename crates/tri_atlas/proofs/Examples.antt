-- Worked examples on the once-punctured torus: the maps of a flip and of a relabelling, a path undone, and a twist.
use Rattle.std.proofs.Common.{◌≡◌, ℤ, pos, negsuc, List, [], ◌∷◌, ◌++◌, refl, arith}
use Rattle.ideal_tri.specs.Triangulations.{IsWalk, previous}
use Rattle.ideal_tri.specs.Flips.{flipped}
use Rattle.ideal_tri.specs.Relabellings.{inverse_images}
use Rattle.tri_atlas.specs.Moves.{Move, flip, relabel, back_of, back_along, triangle_image}
use Rattle.tri_atlas.specs.Maps.{image_of_letter, path_map, letters_of}
use Rattle.tri_atlas.specs.MovedVectors.{vector_along}

abbrev torus : List (List ℤ)
torus = (pos 0 ∷ pos 1 ∷ pos 2 ∷ []) ∷ (negsuc 0 ∷ negsuc 1 ∷ negsuc 2 ∷ []) ∷ []

-- the flip of edge 0, with its sides
abbrev first_flip : Move
first_flip = flip (pos 0) (pos 1) (pos 2) (negsuc 1) (negsuc 2)

side_b : previous torus (pos 0) ≡ pos 2
side_b = refl

side_d : previous torus (negsuc 0) ≡ negsuc 2
side_d = refl

-- edge 2 runs through the quadrilateral before and after it is crossed, and edge 1 does not
image_2 : image_of_letter first_flip (pos 2) ≡ pos 0 ∷ pos 2 ∷ pos 0 ∷ []
image_2 = refl

image_1 : image_of_letter first_flip (pos 1) ≡ pos 1 ∷ []
image_1 = refl

-- the image is a walk on the flipped triangulation, from the triangle of 2 to that of its inverse
walk_2 : IsWalk (flipped torus (pos 0)) 0 (image_of_letter first_flip (pos 2)) 1
walk_2 = (omega arith, refl, (omega arith, refl, (omega arith, refl, refl)))

-- the images of the labels 0, 1 and 2 have 1, 1 and 3 letters
letters : letters_of torus (image_of_letter first_flip) ≡ 5
letters = refl

-- the backward flip has the inverse of edge 0 in its place
back_2 : image_of_letter (back_of first_flip) (pos 2) ≡ negsuc 0 ∷ pos 2 ∷ negsuc 0 ∷ []
back_2 = refl

-- there and back
undone : path_map ((first_flip ∷ []) ++ back_along (first_flip ∷ [])) (pos 2) ≡ pos 2 ∷ []
undone = refl

-- the rotation of the labels 0 -> 1 -> 2 -> 0, and back
rotated : image_of_letter (relabel (pos 1 ∷ pos 2 ∷ pos 0 ∷ [])) (negsuc 0) ≡ negsuc 1 ∷ []
rotated = refl

rotated_back : inverse_images (pos 1 ∷ pos 2 ∷ pos 0 ∷ []) ≡ pos 2 ∷ pos 0 ∷ pos 1 ∷ []
rotated_back = refl

-- a relabelling with a label turned round, and back
turned_back : inverse_images (negsuc 1 ∷ pos 0 ∷ pos 2 ∷ []) ≡ pos 1 ∷ negsuc 0 ∷ pos 2 ∷ []
turned_back = refl

-- a turn by half a circle changes the triangles, and a flip leaves them
half_turn : triangle_image torus torus (relabel (negsuc 0 ∷ negsuc 1 ∷ negsuc 2 ∷ [])) 0 ≡ 1
half_turn = refl

stays : triangle_image torus (flipped torus (pos 0)) first_flip 1 ≡ 1
stays = refl

-- the Dehn twist about the curve that crosses the edges 0 and 2: a flip and a relabelling
abbrev twist : List Move
twist = first_flip ∷ relabel (pos 2 ∷ pos 1 ∷ negsuc 0 ∷ []) ∷ []

-- it fixes that curve, and moves the curve that crosses the edges 1 and 2
twist_fixes : vector_along twist (1 ∷ 0 ∷ 1 ∷ []) ≡ 1 ∷ 0 ∷ 1 ∷ []
twist_fixes = refl

twist_moves : vector_along twist (0 ∷ 1 ∷ 1 ∷ []) ≡ 1 ∷ 1 ∷ 2 ∷ []
twist_moves = refl
