-- Worked examples: test walks of the once-punctured torus, of the four-punctured sphere, and of two spheres at once;
-- inner
-- maps of the torus and their walks, and a twist that is not inner.
use Rattle.std.specs.Prelude.{◌≡◌, ℕ, zero, suc, ℤ, pos, negsuc, false, List, [], ◌∷◌, ◌++◌, refl}
use Rattle.std.specs.List.{flat_map}
use Rattle.ideal_tri.specs.Labels.{inverse}
use Rattle.ideal_tri.specs.Words.{inverse_word, reduce, cyclic_reduce, strip}
use Rattle.ideal_tri.specs.Curves.{is_rotation}
use Rattle.ideal_tri.specs.Triangulations.{triangle_of}
use Rattle.tri_atlas.specs.Maps.{identity}
use Rattle.free_groupoid.specs.TestWalks.{forest, root_of, tree_walk, is_tree_edge, outer_edges, test_walks}
use Rattle.free_groupoid.specs.inside.InnerPaths.{inner_path}
use Rattle.free_groupoid.proofs.Names.{named}

abbrev torus : List (List ℤ)
torus = (pos 0 ∷ pos 1 ∷ pos 2 ∷ []) ∷ (negsuc 0 ∷ negsuc 1 ∷ negsuc 2 ∷ []) ∷ []

torus_edges : outer_edges torus ≡ 1 ∷ 2 ∷ []
unfolding outer_edges is_tree_edge forest
torus_edges = refl

torus_walks : test_walks torus ≡ (pos 1 ∷ negsuc 0 ∷ []) ∷ (pos 2 ∷ negsuc 0 ∷ []) ∷
    (pos 1 ∷ negsuc 0 ∷ pos 2 ∷ negsuc 0 ∷ []) ∷ []
unfolding test_walks outer_edges is_tree_edge tree_walk root_of forest cyclic_reduce strip
torus_walks = refl

-- the four-punctured sphere
abbrev sphere : List (List ℤ)
sphere =
    (pos 0 ∷ pos 3 ∷ negsuc 1 ∷ [])
    ∷ (pos 2 ∷ negsuc 4 ∷ negsuc 0 ∷ [])
    ∷ (pos 1 ∷ pos 5 ∷ negsuc 2 ∷ [])
    ∷ (pos 4 ∷ negsuc 5 ∷ negsuc 3 ∷ [])
    ∷ []

sphere_edges : outer_edges sphere ≡ 2 ∷ 4 ∷ 5 ∷ []
unfolding outer_edges is_tree_edge forest
sphere_edges = refl

sphere_walks : test_walks sphere
    ≡ (pos 0 ∷ pos 2 ∷ pos 1 ∷ [])
    ∷ (pos 3 ∷ pos 4 ∷ negsuc 0 ∷ [])
    ∷ (negsuc 1 ∷ pos 5 ∷ negsuc 3 ∷ [])
    ∷ (pos 2 ∷ pos 1 ∷ pos 3 ∷ pos 4 ∷ [])
    ∷ (pos 0 ∷ pos 2 ∷ pos 5 ∷ negsuc 3 ∷ [])
    ∷ (pos 4 ∷ negsuc 0 ∷ negsuc 1 ∷ pos 5 ∷ [])
    ∷ []
unfolding test_walks outer_edges is_tree_edge tree_walk root_of forest cyclic_reduce strip
sphere_walks = refl

-- two three-punctured spheres: no product of loops of different ones
abbrev pair : List (List ℤ)
pair =
    (pos 0 ∷ pos 1 ∷ pos 2 ∷ [])
    ∷ (negsuc 0 ∷ negsuc 2 ∷ negsuc 1 ∷ [])
    ∷ (pos 3 ∷ pos 4 ∷ pos 5 ∷ [])
    ∷ (negsuc 3 ∷ negsuc 5 ∷ negsuc 4 ∷ [])
    ∷ []

pair_walks : test_walks pair
    ≡ (pos 1 ∷ negsuc 0 ∷ [])
    ∷ (pos 2 ∷ negsuc 0 ∷ [])
    ∷ (pos 4 ∷ negsuc 3 ∷ [])
    ∷ (pos 5 ∷ negsuc 3 ∷ [])
    ∷ (pos 1 ∷ negsuc 0 ∷ pos 2 ∷ negsuc 0 ∷ [])
    ∷ (pos 4 ∷ negsuc 3 ∷ pos 5 ∷ negsuc 3 ∷ [])
    ∷ []
unfolding test_walks outer_edges is_tree_edge tree_walk root_of forest cyclic_reduce strip
pair_walks = refl

-- ---- inner maps of the torus

-- the identity is inner by empty walks
identity_path : inner_path torus identity (λ t. t) 1 ≡ []
unfolding root_of tree_walk outer_edges is_tree_edge forest
identity_path = refl

-- conjugation by a closed walk at triangle 0
abbrev around : List ℤ
around = pos 1 ∷ negsuc 2 ∷ []

-- the walk at each triangle
abbrev walk_of : ℕ → List ℤ
walk_of zero = around
walk_of (suc t) = []

abbrev conjugation : ℤ → List ℤ
conjugation x = reduce (inverse_word (walk_of (triangle_of torus x)) ++ (x ∷ walk_of (triangle_of torus (inverse x))))

conjugation_path : inner_path torus conjugation (λ t. t) 0 ≡ around
unfolding root_of tree_walk outer_edges is_tree_edge forest
conjugation_path = refl

-- the twist 0 to 2, 1 to 1, 2 to 2 -1 2 moves the first test walk
abbrev twist : ℤ → List ℤ
twist x = named ((pos 2 ∷ []) ∷ (pos 1 ∷ []) ∷ (pos 2 ∷ negsuc 0 ∷ pos 2 ∷ []) ∷ []) x

twist_moves : is_rotation (cyclic_reduce (flat_map twist (pos 1 ∷ negsuc 0 ∷ []))) (pos 1 ∷ negsuc 0 ∷ []) ≡ false
unfolding cyclic_reduce strip
twist_moves = refl
