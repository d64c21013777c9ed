-- What is read from the nodes of the forest, and the lists of words that are made from it.
use Rattle.std.proofs.Common.{ℕ, suc, ℤ, pos, Bool, true, false, List, [], ◌∷◌, ◌++◌, ◌≡◌, ◌<◌, ◌≤◌, ◌+◌, ◌-◌, refl}
use Rattle.std.proofs.Common.{sym, ◌∙◌, ap, subst}
use Rattle.std.proofs.Common.{cond, append_assoc, append-nil, arith, length, map, drop, get_or, not}
use Rattle.std.proofs.lemmas.List.{get_or_default, drop_more, drop_all}
use Rattle.std.specs.List.{All, Contains, list_any, filter, range_with_len}
use Rattle.ideal_tri.specs.Labels.{inverse}
use Rattle.ideal_tri.specs.Triangulations.{edge_count, triangle_of}
use Rattle.ideal_tri.specs.Words.{inverse_word, cyclic_reduce}
use Rattle.free_groupoid.specs.TestWalks.{Node, node_at, ends_across, forest, root_of, tree_walk, is_tree_edge}
use Rattle.free_groupoid.specs.TestWalks.{outer_edges, loop, root_of_edge, edges_at, products, test_walks}
use Rattle.free_groupoid.proofs.OuterEdges.{edge_outer}

pub root_read : (triples : List (List ℤ)) (nodes : List Node) (t : ℕ) → nodes ≡ forest triples
    → (node_at nodes t).root ≡ root_of triples t
unfolding root_of
root_read triples nodes t e = ap (λ (ns : List Node). (node_at ns t).root) e

pub walk_read : (triples : List (List ℤ)) (nodes : List Node) (t : ℕ) → nodes ≡ forest triples
    → (node_at nodes t).walk ≡ tree_walk triples t
unfolding tree_walk
walk_read triples nodes t e = ap (λ (ns : List Node). (node_at ns t).walk) e

pub edge_read : (triples : List (List ℤ)) (nodes : List Node) (e : ℕ) → nodes ≡ forest triples
    → list_any (λ n. ends_across e n.walk) nodes ≡ is_tree_edge triples e
unfolding is_tree_edge
edge_read triples nodes e h = ap (λ (ns : List Node). list_any (λ n. ends_across e n.walk) ns) h

-- ---- edges outside the trees

module _ (triples : List (List ℤ)) where
  -- those from e on are still to come
  abbrev pub IsSorting : List ℕ → ℕ → Type 0
  IsSorting edges e = edges ++ filter (λ i. not (is_tree_edge triples i)) (range_with_len e (edge_count triples - e))
      ≡ outer_edges triples

  pub sorting_none : IsSorting [] 0
  unfolding outer_edges
  sorting_none =
      let left : edge_count triples - 0 ≡ edge_count triples = omega arith in
      ap (λ (n : ℕ). filter (λ i. not (is_tree_edge triples i)) (range_with_len 0 n)) left

  next_edge : (edges : List ℕ) (e : ℕ) → IsSorting edges e → e < edge_count triples
      → edges ++ filter (λ i. not (is_tree_edge triples i)) (e ∷ range_with_len (e + 1) (edge_count triples - (e + 1)))
      ≡ outer_edges triples
  next_edge edges e so_far inside =
      let left : edge_count triples - e ≡ suc (edge_count triples - (e + 1)) = omega arith in
      ap (λ (n : ℕ). edges ++ filter (λ i. not (is_tree_edge triples i)) (range_with_len e n)) (sym left) ∙ so_far

  abbrev rest : ℕ → List ℕ
  rest e = filter (λ i. not (is_tree_edge triples i)) (range_with_len (e + 1) (edge_count triples - (e + 1)))

  pub sorting_kept : (edges : List ℕ) (e : ℕ) → IsSorting edges e → e < edge_count triples
      → is_tree_edge triples e ≡ false
      → IsSorting (edges ++ e ∷ []) (e + 1)
  sorting_kept edges e so_far inside outside =
      append_assoc edges (e ∷ []) (rest e)
      ∙ ap (λ (b : Bool). edges ++ cond (not b) (e ∷ rest e) (rest e)) (sym outside)
      ∙ next_edge edges e so_far inside

  pub sorting_left : (edges : List ℕ) (e : ℕ) → IsSorting edges e → e < edge_count triples
      → is_tree_edge triples e ≡ true
      → IsSorting edges (e + 1)
  sorting_left edges e so_far inside crossed =
      ap (λ (b : Bool). edges ++ cond (not b) (e ∷ rest e) (rest e)) (sym crossed) ∙ next_edge edges e so_far inside

  pub sorted_all : (edges : List ℕ) (e : ℕ) → IsSorting edges e → edge_count triples ≤ e → edges ≡ outer_edges triples
  sorted_all edges e so_far all =
      let none : edge_count triples - e ≡ 0 = omega arith in
      sym (append-nil edges) ∙ (rw none at so_far)

  here : (xs : List ℕ) (n d : ℕ) → n < length xs → Contains xs (get_or xs n d)
  here xs n d inside = (n, inside, get_or_default xs n (get_or xs n d) d inside)

  pub outer_below : (edges : List ℕ) → edges ≡ outer_edges triples → All (λ e. e < edge_count triples) edges
  outer_below edges h = λ n d inside. (edge_outer triples (get_or edges n d)
      (subst (λ (es : List ℕ). Contains es (get_or edges n d)) h (here edges n d inside))).label

-- ---- loops

pub looped : (triples : List (List ℤ)) (word walked stepped new there back : List ℤ) (x : ℤ)
    → there ≡ tree_walk triples (triangle_of triples x) → back ≡ tree_walk triples (triangle_of triples (inverse x))
    → walked ≡ word ++ there → stepped ≡ walked ++ (x ∷ []) → new ≡ stepped ++ inverse_word back
    → new ≡ word ++ loop triples x
looped triples word walked stepped new there back x is_there is_back is_walked is_stepped is_new =
    is_new
    ∙ ap (λ (w : List ℤ). w ++ inverse_word back) (is_stepped ∙ ap (λ (w : List ℤ). w ++ (x ∷ [])) is_walked)
    ∙ append_assoc (word ++ there) (x ∷ []) (inverse_word back)
    ∙ append_assoc word there (x ∷ inverse_word back)
    ∙ ap (λ (w : List ℤ). word ++ (w ++ (x ∷ inverse_word back))) is_there
    ∙ ap (λ (w : List ℤ). word ++ (tree_walk triples (triangle_of triples x) ++ (x ∷ inverse_word w))) is_back

-- ---- test walks

module _ (triples : List (List ℤ)) where
  -- the products of the edges from place k on with later ones are still to come
  abbrev pub IsMultiplying : List ℕ → List (List ℤ) → ℕ → Type 0
  IsMultiplying edges words k = words ++ products triples (drop k edges) ≡ test_walks triples

  pub multiplying_none : (edges : List ℕ) (words : List (List ℤ)) → edges ≡ outer_edges triples
      → words ≡ map (λ e. cyclic_reduce (loop triples (pos e))) edges → IsMultiplying edges words 0
  unfolding test_walks
  multiplying_none edges words is_edges is_words = rw (is_words, is_edges) refl

  pub multiplying_more : (edges : List ℕ) (words new : List (List ℤ)) (k i : ℕ) (others : List ℕ)
      → IsMultiplying edges words k → k < length edges
      → i ≡ get_or edges k i
      → new ≡ words ++ map (λ j. cyclic_reduce (loop triples (pos i) ++ loop triples (pos j))) (edges_at triples
      (root_of_edge triples i) others)
      → others ≡ drop (k + 1) edges → IsMultiplying edges new (k + 1)
  multiplying_more edges words new k i others so_far inside is_i is_new is_others =
      ap (λ (ws : List (List ℤ)). ws ++ products triples (drop (k + 1) edges))
      (is_new ∙ ap (λ (es : List ℕ). words ++ map (λ j. cyclic_reduce (loop triples (pos i) ++ loop triples (pos j)))
      (edges_at triples (root_of_edge triples i) es)) is_others)
      ∙ append_assoc words (map (λ j. cyclic_reduce (loop triples (pos i) ++ loop triples (pos j))) (edges_at triples
      (root_of_edge triples i) (drop (k + 1) edges)))
      (products triples (drop (k + 1) edges))
      ∙ ap (λ (n : ℕ). words ++ products triples (n ∷ drop (k + 1) edges)) is_i
      ∙ ap (λ (es : List ℕ). words ++ products triples es) (sym (drop_more edges k i inside))
      ∙ so_far

  pub multiplied_all : (edges : List ℕ) (words : List (List ℤ)) (k : ℕ) → IsMultiplying edges words k
      → length edges ≤ k → words ≡ test_walks triples
  multiplied_all edges words k so_far all =
      sym (append-nil words)
      ∙ ap (λ (es : List ℕ). words ++ products triples es) (sym (drop_all k edges all))
      ∙ so_far
