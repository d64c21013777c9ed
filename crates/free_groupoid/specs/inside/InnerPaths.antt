-- The walks that make a map inner, computed from the images of the loops of a spanning forest.
use Rattle.std.specs.Prelude.{◌++◌, ◌+◌, ◌/◌, ℕ, ℤ, pos, Bool, List, [], ◌∷◌, length, drop, nat_lt}
use Rattle.std.specs.Prelude.{nat_eq, if◌then◌else◌, not, ◌&&◌}
use Rattle.std.specs.List.{flat_map, take_while}
use Rattle.ideal_tri.specs.Labels.{edge_of}
use Rattle.ideal_tri.specs.Words.{inverse_word, reduce}
use Rattle.ideal_tri.specs.Triangulations.{edge_count}
use Rattle.free_groupoid.specs.TestWalks.{root_of, tree_walk, is_tree_edge, loop, outer_edges}
use Rattle.free_groupoid.specs.TestWalks.{root_of_edge, edges_at}

-- the edge lies outside the forest, in the component of the root r
abbrev pub is_outer_at : List (List ℤ) → ℕ → ℕ → Bool
is_outer_at triples r e =
    nat_lt e (edge_count triples)
    && (not (is_tree_edge triples e) && nat_eq (root_of_edge triples e) r)

-- the forest collapsed: letters of outer edges of the component stay, all others fall away
abbrev pub collapse : List (List ℤ) → ℕ → ℤ → List ℤ
collapse triples r x = if is_outer_at triples r (edge_of x) then x ∷ [] else []

-- where a conjugates x and b conjugates y to the words that one word conjugates both to, that word
abbrev pub shared : ℤ → List ℤ → List ℤ → List ℤ
shared x a b =
    let front = take_while (λ y. nat_eq (edge_of y) (edge_of x)) (reduce (a ++ inverse_word b)) in
    reduce (inverse_word front ++ a)

-- the letters after the middle one
abbrev pub second_half : List ℤ → List ℤ
second_half w = drop ((length w + 1) / 2) w

-- the image of the loop of the edge, with the forest collapsed
abbrev pub collapsed_image : List (List ℤ) → (ℤ → List ℤ) → ℕ → ℕ → List ℤ
collapsed_image triples f r e =
    reduce (flat_map (collapse triples r) (flat_map f (loop triples (pos e))))

-- a word that conjugates the letters of the first two edges to their images, and so all of them
abbrev pub conjugator : List (List ℤ) → (ℤ → List ℤ) → ℕ → List ℕ → List ℤ
conjugator triples f r (i ∷ (j ∷ edges)) =
    shared (pos i) (second_half (collapsed_image triples f r i))
    (second_half (collapsed_image triples f r j))
conjugator triples f r _ = []

-- the walk from the root to its image that conjugates all loops to their images
abbrev pub root_path : List (List ℤ) → (ℤ → List ℤ) → (ℕ → ℕ) → ℕ → List ℤ
root_path triples f triangles r =
    flat_map (loop triples) (conjugator triples f r (edges_at triples r (outer_edges triples)))
    ++ tree_walk triples (triangles r)

-- back along the tree, along the walk of the root, and along the image of the way there
abbrev pub inner_path : List (List ℤ) → (ℤ → List ℤ) → (ℕ → ℕ) → ℕ → List ℤ
inner_path triples f triangles t =
    let r = root_of triples t in
    reduce
    (inverse_word (tree_walk triples t)
    ++ (root_path triples f triangles r ++ flat_map f (tree_walk triples t)))
