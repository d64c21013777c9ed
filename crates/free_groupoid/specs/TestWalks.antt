-- The test walks of a triangulation: the loops of a spanning forest, and their products.
use Rattle.std.specs.Prelude.{◌++◌, ℕ, zero, suc, ℤ, pos, negsuc, Bool, false, List, [], ◌∷◌}
use Rattle.std.specs.Prelude.{length, map, nat_eq, if◌then◌else◌, not}
use Rattle.std.specs.List.{flat_map, filter, list_any, range_with_len}
use Rattle.ideal_tri.specs.Labels.{inverse, edge_of}
use Rattle.ideal_tri.specs.Words.{inverse_word, last_of, cyclic_reduce}
use Rattle.ideal_tri.specs.Triangulations.{edge_count, triangle_of}

-- ---- the forest

-- a triangle of a tree, the root of the tree, and the walk along the tree from the root to it
pub record Node : Type 0 where
  pub triangle : ℕ
  pub root : ℕ
  pub walk : List ℤ

-- the triangle where a tree begins
abbrev pub root_node : ℕ → Node
root_node t = record { triangle = t; root = t; walk = [] }

-- the triangle beyond the side x of a node's triangle
abbrev pub node_beyond : List (List ℤ) → Node → ℤ → Node
node_beyond triples n x = record {
  triangle = triangle_of triples (inverse x);
  root = n.root;
  walk = n.walk ++ (x ∷ []);
}

-- a node stands at the triangle
abbrev pub has_node : List Node → ℕ → Bool
has_node nodes t = list_any (λ n. nat_eq n.triangle t) nodes

-- the labels in the order 0, ~0, 1, ~1, .. of their edges
abbrev pub label_order : List (List ℤ) → List ℤ
label_order triples =
    flat_map (λ e. pos e ∷ (negsuc e ∷ [])) (range_with_len 0 (edge_count triples))

-- the sides of a triangle in that order
abbrev pub sides_in_order : List (List ℤ) → ℕ → List ℤ
sides_in_order triples t = filter (λ x. nat_eq (triangle_of triples x) t) (label_order triples)

-- the waiting nodes, and behind them a node beyond each side of n, tried in order, whose other
-- triangle is new
abbrev pub sprout : List (List ℤ) → Node → List ℤ → List Node → List Node → List Node
sprout triples n [] done queue = queue
sprout triples n (x ∷ sides) done queue =
    if has_node (done ++ queue) (triangle_of triples (inverse x))
    then sprout triples n sides done queue
    else sprout triples n sides done (queue ++ (node_beyond triples n x ∷ []))

-- breadth first: of the waiting nodes the first has its turn, at most as often as the bound says
abbrev pub grow : List (List ℤ) → ℕ → List Node → List Node → List Node
grow triples zero done queue = done ++ queue
grow triples (suc bound) done [] = done
grow triples (suc bound) done (n ∷ queue) =
    grow triples bound (done ++ (n ∷ []))
    (sprout triples n (sides_in_order triples n.triangle) (done ++ (n ∷ [])) queue)

-- a tree from each of the triangles that is new when it comes
abbrev pub plant : List (List ℤ) → List ℕ → List Node → List Node
plant triples [] nodes = nodes
plant triples (t ∷ ts) nodes =
    if has_node nodes t
    then plant triples ts nodes
    else plant triples ts (grow triples (length triples) nodes (root_node t ∷ []))

-- a tree for each component, from its least triangle
unfoldable pub forest : List (List ℤ) → List Node
forest triples = plant triples (range_with_len 0 (length triples)) []

-- the node at a triangle
abbrev pub node_at : List Node → ℕ → Node
node_at [] t = root_node t
node_at (n ∷ nodes) t = if nat_eq n.triangle t then n else node_at nodes t

-- the least triangle of the component of t
unfoldable pub root_of : List (List ℤ) → ℕ → ℕ
root_of triples t = (node_at (forest triples) t).root

-- the walk along the tree from there to t
unfoldable pub tree_walk : List (List ℤ) → ℕ → List ℤ
tree_walk triples t = (node_at (forest triples) t).walk

-- the walk ends with a step across the edge
abbrev pub ends_across : ℕ → List ℤ → Bool
ends_across e [] = false
ends_across e (x ∷ w) = nat_eq (edge_of (last_of x w)) e

-- a tree crosses the edge
unfoldable pub is_tree_edge : List (List ℤ) → ℕ → Bool
is_tree_edge triples e = list_any (λ n. ends_across e n.walk) (forest triples)

-- ---- the walks

-- along the tree to the triangle of x, across x, and along the tree back
abbrev pub loop : List (List ℤ) → ℤ → List ℤ
loop triples x =
    tree_walk triples (triangle_of triples x)
    ++ (x ∷ inverse_word (tree_walk triples (triangle_of triples (inverse x))))

-- the edges outside the forest, in order
unfoldable pub outer_edges : List (List ℤ) → List ℕ
outer_edges triples =
    filter (λ e. not (is_tree_edge triples e)) (range_with_len 0 (edge_count triples))

-- the root of the component of an edge
abbrev pub root_of_edge : List (List ℤ) → ℕ → ℕ
root_of_edge triples e = root_of triples (triangle_of triples (pos e))

-- those of the edges that lie in the component of this root
abbrev pub edges_at : List (List ℤ) → ℕ → List ℕ → List ℕ
edges_at triples r edges = filter (λ e. nat_eq (root_of_edge triples e) r) edges

-- the products of the loops of the edges i < j of one component, ordered by i and then j
abbrev pub products : List (List ℤ) → List ℕ → List (List ℤ)
products triples [] = []
products triples (i ∷ edges) =
    map (λ j. cyclic_reduce (loop triples (pos i) ++ loop triples (pos j)))
    (edges_at triples (root_of_edge triples i) edges)
    ++ products triples edges

-- the loops of the edges outside the forest, and then their products
unfoldable pub test_walks : List (List ℤ) → List (List ℤ)
test_walks triples =
    map (λ e. cyclic_reduce (loop triples (pos e))) (outer_edges triples)
    ++ products triples (outer_edges triples)
