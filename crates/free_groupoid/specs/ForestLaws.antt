-- What holds of the spanning forest.
use Rattle.std.specs.Prelude.{◌≡◌, ◌≢◌, ◌<◌, ◌++◌, ℕ, ℤ, true, List, [], ◌∷◌, length, All, Contains}
use Rattle.ideal_tri.specs.Labels.{inverse, edge_of}
use Rattle.ideal_tri.specs.Words.{reduce}
use Rattle.ideal_tri.specs.Triangulations.{IsLabel, IsWalk, triangle_of}
use Rattle.ideal_tri.specs.Components.{least_triangle}
use Rattle.free_groupoid.specs.TestWalks.{root_of, tree_walk, is_tree_edge, outer_edges, edges_at}

-- each triangle is reached from the least triangle of its component, across tree edges alone; and
-- at least two edges of the component lie outside the tree
pub record ForestLaws (triples : List (List ℤ)) : Type 0 where
  pub walk : (t : ℕ) → t < length triples
      → IsWalk triples (root_of triples t) (tree_walk triples t) t
  pub least : (t : ℕ) → t < length triples → root_of triples t ≡ least_triangle triples t
  pub component : (x : ℤ) → IsLabel triples x
      → root_of triples (triangle_of triples (inverse x))
      ≡ root_of triples (triangle_of triples x)
  pub letters : (t : ℕ) → t < length triples
      → All (λ x. is_tree_edge triples (edge_of x) ≡ true) (tree_walk triples t)
  pub across : (x : ℤ) → IsLabel triples x → is_tree_edge triples (edge_of x) ≡ true
      → reduce (tree_walk triples (triangle_of triples x) ++ (x ∷ []))
      ≡ reduce (tree_walk triples (triangle_of triples (inverse x)))
  pub outside : (t : ℕ) → t < length triples
      → (i : ℕ) × (j : ℕ) × (i ≢ j)
      × Contains (edges_at triples (root_of triples t) (outer_edges triples)) i
      × Contains (edges_at triples (root_of triples t) (outer_edges triples)) j
