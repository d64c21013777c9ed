-- Where all test walks are kept, each component goes to itself, and a walk at its root carries all loops to their
-- images.
--
-- A test walk has a letter, and its letters lie in its component. The cyclic reduction of its image is a rotation of
-- it, so it has the same letters; and they lie in the component where the image of the root lies. So that is the same
-- component. Let h be a word of outer letters that carries each outer letter to its collapsed image. The loops of its
-- letters, and the walk along the tree to the image of the root, are a walk that collapses to h. It carries a loop to
-- its image: both sides of the equation are walks with the same ends, and they collapse alike.
use Rattle.std.proofs.Common.{ℕ, ℤ, pos, List, [], ◌∷◌, ◌++◌, ◌≡◌, ◌<◌, refl, sym, ◌∙◌, ap, subst, length}
use Rattle.std.specs.List.{All, Contains, flat_map}
use Rattle.std.proofs.lemmas.List.{append-nil}
use Rattle.std.proofs.lemmas.List.Concat.{flat_map-append}
use Rattle.std.proofs.lemmas.List.Elements.{All-append, All-contains, All-head}
use Rattle.ideal_tri.specs.Labels.{inverse}
use Rattle.ideal_tri.specs.Words.{reduce, cyclic_reduce, IsRotation}
use Rattle.ideal_tri.specs.Triangulations.{IsWalk}
use Rattle.tri_atlas.specs.Maps.{IsMap}
use Rattle.free_groupoid.specs.TestWalks.{root_of, tree_walk, is_tree_edge, loop, outer_edges, edges_at, test_walks}
use Rattle.free_groupoid.specs.Inner.{IsKept}
use Rattle.free_groupoid.specs.inside.InnerPaths.{collapse, collapsed_image}
use Rattle.free_groupoid.proofs.Reduced.{All-parts}
use Rattle.free_groupoid.proofs.Carrying.{Carries, carries-rotation, kept-carries}
use Rattle.free_groupoid.proofs.Collapse.{IsOuter, collapse-trees}
use Rattle.free_groupoid.proofs.Known.{Laws}
use Rattle.free_groupoid.proofs.Loops.{loop_closed, loops_closed, collapse-loops}
use Rattle.free_groupoid.proofs.Telescope.{IsIn, collapse_injective}
use Rattle.free_groupoid.proofs.OuterEdges.{edge_at_outer, edge_at_edge, outer_edge_at}
use Rattle.free_groupoid.proofs.TestLists.{loop_walk, loop_tested}
use Rattle.free_groupoid.proofs.ClosedWords.{core_letters, loop_collapsed, empty_core}
use Rattle.free_groupoid.proofs.RootPaths.{CarriesLoops, carries_loops}

-- the inverse of an outer label is one
pub outer_back : (triples : List (List ℤ)) (l : Laws triples) (r : ℕ) (x : ℤ) → IsOuter triples r x
    → IsOuter triples r (inverse x)
outer_back triples l r x h = record {
  label = l.known.labels.label triples x h.label;
  outside = ap (is_tree_edge triples) (l.known.labels.edge x) ∙ h.outside;
  root = l.forest.component x h.label ∙ h.root;
}

-- a word with the letters of a rotation, where it has a letter, lies in one component
one_component : (triples : List (List ℤ)) (l : Laws triples) (r i : ℕ) (u v : List ℤ) → IsRotation u v → (u ≡ [] → ⊥)
    → All (IsIn triples l r) u → All (IsIn triples l i) v → i ≡ r
one_component triples l r i u v (a, b, e, f) some of_u of_v =
    let parts = All-parts (IsIn triples l i) b a (subst (All (IsIn triples l i)) f of_v) in
    go u some of_u (subst (All (IsIn triples l i)) (sym e) (All-append (IsIn triples l i) a b parts.1 parts.0))
  where
    go : (w : List ℤ) → (w ≡ [] → ⊥) → All (IsIn triples l r) w → All (IsIn triples l i) w → i ≡ r
    go [] n h k = absurd (n refl)
    go (x ∷ w) n h k = sym (All-head (IsIn triples l i) x w k).1 ∙ (All-head (IsIn triples l r) x w h).1

module _ (triples : List (List ℤ)) (l : Laws triples) (f : ℤ → List ℤ) (f0 : ℕ → ℕ) (m : IsMap triples triples f f0)
    (kept : All (IsKept f) (test_walks triples)) (r : ℕ) (own : root_of triples r ≡ r) where
  -- the image of the root lies in its component
  pub root_stays : (e : ℕ) → Contains (edges_at triples r (outer_edges triples)) e → root_of triples (f0 r) ≡ r
  root_stays e h =
      let w : List ℤ = loop triples (pos e) in
      let outer : IsOuter triples r (pos e) = edge_at_outer triples r e h in
      let closed : IsWalk triples r w r = loop_closed triples l (pos e) r outer.label outer.root in
      let (q, carries) = kept-carries l.known f w m.odd
      (All-contains (IsKept f) (test_walks triples) (loop_walk triples e) kept
      (loop_tested triples e (edge_at_edge triples r e h))) in
      let not_empty : cyclic_reduce w ≡ [] → ⊥ = λ none.
      (let nothing : pos e ∷ [] ≡ [] = sym (ap reduce (loop_collapsed triples l r e outer)) ∙ empty_core triples l r w
      none in cc) in
      one_component triples l r (root_of triples (f0 r)) (cyclic_reduce w) (cyclic_reduce (flat_map f w))
      (carries-rotation l.known q w (flat_map f w) carries) not_empty
      (core_letters triples l r r r w own closed)
      (core_letters triples l (root_of triples (f0 r)) (f0 r) (f0 r) (flat_map f w) refl
      (l.known.maps.walks.walks triples triples f f0 r r w l.triangulation m closed))

  -- the loops of the letters of a word, and the walk to the image of the root
  abbrev spread_to : List ℤ → List ℤ
  spread_to h = flat_map (loop triples) h ++ tree_walk triples (f0 r)

  spread_collapsed : (h : List ℤ) → f0 r < length triples → All (IsOuter triples r) h
      → flat_map (collapse triples r) (spread_to h) ≡ h
  spread_collapsed h below outer =
      flat_map-append (collapse triples r) (flat_map (loop triples) h) (tree_walk triples (f0 r))
      ∙ ap (λ (z : List ℤ). z ++ flat_map (collapse triples r) (tree_walk triples (f0 r)))
      (collapse-loops triples l r h outer)
      ∙ ap (λ (z : List ℤ). h ++ z)
      (collapse-trees triples l.forest r (tree_walk triples (f0 r)) (l.forest.letters (f0 r) below))
      ∙ append-nil h

  -- a word of outer letters that carries each outer letter to its collapsed image gives the walk at the root
  pub spread_carries : (h : List ℤ) → f0 r < length triples → root_of triples (f0 r) ≡ r → All (IsOuter triples r) h
      → ((e : ℕ) → Contains (edges_at triples r (outer_edges triples)) e → Carries h (pos e ∷ [])
      (collapsed_image triples f r e))
      → CarriesLoops triples f f0 r (spread_to h)
  spread_carries h below stays outer carries = carries_loops triples l f f0 m r (spread_to h) walk equation
    where
      walk : IsWalk triples r (spread_to h) (f0 r)
      walk =
          l.walks.join r r (f0 r) (flat_map (loop triples) h) (tree_walk triples (f0 r))
          (loops_closed triples l r h outer)
          (subst (λ (i : ℕ). IsWalk triples i (tree_walk triples (f0 r)) (f0 r)) stays (l.forest.walk (f0 r) below))

      equation : (e : ℕ) → IsOuter triples r (pos e)
          → reduce (spread_to h ++ flat_map f (loop triples (pos e))) ≡ reduce (loop triples (pos e) ++ spread_to h)
      equation e out =
          let w : List ℤ = loop triples (pos e) in
          let closed : IsWalk triples r w r = loop_closed triples l (pos e) r out.label out.root in
          collapse_injective triples l r r (f0 r) (spread_to h ++ flat_map f w) (w ++ spread_to h) own
          (l.walks.join r (f0 r) (f0 r) (spread_to h) (flat_map f w) walk
          (l.known.maps.walks.walks triples triples f f0 r r w l.triangulation m closed))
          (l.walks.join r r (f0 r) w (spread_to h) closed walk)
          (ap reduce (flat_map-append (collapse triples r) (spread_to h) (flat_map f w))
          ∙ ap (λ (z : List ℤ). reduce (z ++ flat_map (collapse triples r) (flat_map f w)))
          (spread_collapsed h below outer)
          ∙ l.known.words.reduction.right h (flat_map (collapse triples r) (flat_map f w))
          (collapsed_image triples f r e)
          (sym (l.known.words.reduction.twice (flat_map (collapse triples r) (flat_map f w))))
          ∙ sym (carries e (outer_edge_at triples l.forest r (pos e) out))
          ∙ ap reduce
          (sym
          (flat_map-append (collapse triples r) w (spread_to h)
          ∙ ap (λ (z : List ℤ). z ++ flat_map (collapse triples r) (spread_to h)) (loop_collapsed triples l r e out)
          ∙ ap (λ (z : List ℤ). pos e ∷ z) (spread_collapsed h below outer))))
