-- The laws of the spanning forest.
--
-- They are read from the nodes: each triangle has one, its walk leads there from the root, sides lead to nodes of the
-- same tree, and steps across tree edges go from node to node. Three labels of each tree are free; an edge has two
-- labels, so they are of two edges at least, and these are among the outer edges of the component. A walk joins a
-- triangle to its root, so the least triangle of the component is not above the root; and it lies in the same tree,
-- whose root is not above it.
use Rattle.std.proofs.Common.{ℕ, ℤ, pos, negsuc, List, [], ◌∷◌, ◌≡◌, ◌≢◌, ◌<◌, ◌≤◌, inl, inr, refl, sym, ◌∙◌, ap, arith}
use Rattle.std.proofs.Common.{length, nat_eq, not}
use Rattle.std.specs.List.{Contains, range_with_len}
use Rattle.std.proofs.lemmas.Bool.{cases_eq, eq-eqb, not_from_false}
use Rattle.ideal_tri.specs.Labels.{inverse, edge_of}
use Rattle.ideal_tri.specs.Words.{inverse_word}
use Rattle.ideal_tri.specs.Components.{least_triangle}
use Rattle.ideal_tri.specs.ComponentLaws.{ConnectionLaws}
use Rattle.ideal_tri.specs.Triangulations.{IsLabel, IsWalk, edge_count, triangle_of}
use Rattle.free_groupoid.specs.TestWalks.{Node, node_at, forest, root_of, tree_walk, is_tree_edge, outer_edges}
use Rattle.free_groupoid.specs.TestWalks.{root_of_edge, edges_at}
use Rattle.free_groupoid.specs.ForestLaws.{ForestLaws}
use Rattle.free_groupoid.proofs.Known.{Glued}
use Rattle.free_groupoid.proofs.Members.{member_filter, member_range}
use Rattle.free_groupoid.proofs.Forests.{IsFree, AreFree}
use Rattle.free_groupoid.proofs.ForestNodes.{only_node, node_is_at, node_walk, node_least, node_component, node_letters}
use Rattle.free_groupoid.proofs.ForestNodes.{node_across}
use Rattle.free_groupoid.proofs.Planting.{IsGrown, forest_grown}

-- both labels of an edge lie in one component
pub edge_component : (triples : List (List ℤ))
    → ((x : ℤ) → IsLabel triples x → root_of triples (triangle_of triples (inverse x)) ≡ root_of triples
    (triangle_of triples x))
    → (x : ℤ) → IsLabel triples x → root_of_edge triples (edge_of x) ≡ root_of triples (triangle_of triples x)
edge_component triples component (pos n) label = refl
edge_component triples component (negsuc n) label = sym (component (pos n) label)

module _ (triples : List (List ℤ)) (glue : Glued triples) where
  grown : IsGrown triples (length triples) (forest triples)
  grown = forest_grown triples glue

  component : (x : ℤ) → IsLabel triples x
      → root_of triples (triangle_of triples (inverse x)) ≡ root_of triples (triangle_of triples x)
  unfolding root_of
  component x label = node_component triples glue (forest triples) grown x label

  -- the edge of a free label
  free_outer : (r : ℕ) (x : ℤ) → IsFree triples (forest triples) r x
      → Contains (edges_at triples r (outer_edges triples)) (edge_of x)
  unfolding outer_edges is_tree_edge root_of
  free_outer r x h =
      member_filter (λ e. nat_eq (root_of_edge triples e) r) (outer_edges triples) (edge_of x)
      (member_filter (λ e. not (is_tree_edge triples e)) (range_with_len 0 (edge_count triples)) (edge_of x)
      (member_range 0 (edge_count triples) (edge_of x) (omega arith) (omega (arith, h.label)))
      (not_from_false (is_tree_edge triples (edge_of x)) h.free))
      (eq-eqb (root_of_edge triples (edge_of x)) r
      (edge_component triples component x h.label
      ∙ ap (λ (m : Node). m.root)
      (only_node triples glue (forest triples) grown h.node (triangle_of triples x) h.there h.at)
      ∙ h.root))

  -- of three labels two are of different edges
  two_free : (r : ℕ) → AreFree triples (forest triples) r
      → (i : ℕ) × (j : ℕ) × (i ≢ j) × Contains (edges_at triples r (outer_edges triples)) i × Contains
      (edges_at triples r (outer_edges triples)) j
  two_free r h =
      elim (cases_eq (edge_of h.a) (edge_of h.b)) [
        | inr ne ↦ (edge_of h.a, edge_of h.b, ne, free_outer r h.a h.free_a, free_outer r h.b h.free_b)
        | inl e ↦ (edge_of h.a, edge_of h.c, third e, free_outer r h.a h.free_a, free_outer r h.c h.free_c)
      ]
    where
      -- the third label is neither the first nor the second
      third : edge_of h.a ≡ edge_of h.b → edge_of h.a ≢ edge_of h.c
      third e f =
          elim (glue.known.labels.of_edge h.b h.a (sym e)) [
            | inl same ↦ h.a_b (sym same)
            | inr turned ↦
                elim (glue.known.labels.of_edge h.c h.a (sym f)) [
                  | inl same ↦ h.a_c (sym same)
                  | inr again ↦ h.b_c (turned ∙ sym again)
                ]
          ]

  -- ---- the least triangle

  root_along : (s t : ℕ) (w : List ℤ) → IsWalk triples s w t → root_of triples t ≡ root_of triples s
  root_along s t [] h = ap (root_of triples) (sym h)
  root_along s t (x ∷ w) h =
      root_along (triangle_of triples (inverse x)) t w h.2 ∙ component x h.0 ∙ ap (root_of triples) h.1

  root_least : ConnectionLaws triples → (i : ℕ) → i < length triples → root_of triples i ≡ least_triangle triples i
  unfolding root_of
  root_least c i below =
      let itself : least_triangle triples i ≤ i = c.least i i below (record { letters = []; walk = refl }) in
      let first : least_triangle triples i < length triples = omega arith in
      let there = c.there i below in
      let up : least_triangle triples i ≤ root_of triples i =
      c.least (root_of triples i) i below
      (record {
        letters = inverse_word (node_at (forest triples) i).walk;
        walk =
            glue.walks.back (root_of triples i) i (node_at (forest triples) i).walk
            (node_walk triples glue (forest triples) grown i below);
      }) in
      let down : root_of triples (least_triangle triples i) ≤ least_triangle triples i =
      node_least triples glue (forest triples) grown (least_triangle triples i) first in
      let same : root_of triples (least_triangle triples i) ≡ root_of triples i =
      root_along i (least_triangle triples i) there.letters there.walk in
      omega (arith, up, down, same)

  pub forest_laws : ConnectionLaws triples → ForestLaws triples
  unfolding root_of tree_walk is_tree_edge
  forest_laws c = record {
    walk = λ i below. node_walk triples glue (forest triples) grown i below;
    least = root_least c;
    component = component;
    letters = λ i below.
        node_letters triples glue (forest triples) grown (length (node_at (forest triples) i).walk)
        (node_at (forest triples) i) (omega arith)
        (node_is_at triples glue (forest triples) grown i below).there;
    across = λ x label h. node_across triples glue (forest triples) grown x h;
    outside = λ i below.
        two_free (node_at (forest triples) i).root
        (grown.forest.three (node_at (forest triples) i)
        (node_is_at triples glue (forest triples) grown i below).there);
  }
