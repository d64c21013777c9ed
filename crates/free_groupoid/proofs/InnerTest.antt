-- The inner test: a map is inner exactly where it keeps each test walk, and by one list of reduced walks alone.
--
-- An inner map carries each closed walk to its image by a walk, so it keeps the cyclic reduction up to rotation. The
-- converse is the computed list of walks. Let p and q both make f inner. At a root, p q⁻¹ is a closed walk that
-- commutes with each loop. Collapsed, it commutes with the letters of two outer edges, so it is empty up to
-- reduction; and a closed walk that collapses to nothing reduces to nothing. So p and q agree at the root. The
-- equation along the tree determines the other walks from that of the root.
use Rattle.std.proofs.Common.{ℕ, ℤ, pos, List, [], ◌∷◌, ◌++◌, ◌≡◌, ◌<◌, refl, sym, ◌∙◌, ap, subst, append_assoc, length}
use Rattle.std.specs.List.{All, flat_map}
use Rattle.ideal_tri.specs.Words.{inverse_word, reduce, cyclic_reduce}
use Rattle.ideal_tri.specs.Triangulations.{IsWalk, IsTriangulation}
use Rattle.tri_atlas.specs.Maps.{IsMap}
use Rattle.free_groupoid.specs.TestWalks.{root_of, tree_walk, loop, test_walks}
use Rattle.free_groupoid.specs.Inner.{IsInner, IsKept}
use Rattle.free_groupoid.specs.InnerLaws.{InnerLaws}
use Rattle.free_groupoid.specs.inside.InnerPaths.{collapse}
use Rattle.free_groupoid.proofs.Names.{reduce-inside, +0, -0, +1, -1, +2, +3, by_fact}
use Rattle.free_groupoid.proofs.Carrying.{Carries, carries_image, carries-kept}
use Rattle.free_groupoid.proofs.Centraliser.{centraliser}
use Rattle.free_groupoid.proofs.Collapse.{IsOuter, collapse-odd}
use Rattle.free_groupoid.proofs.Known.{Laws}
use Rattle.free_groupoid.proofs.Loops.{loop_closed}
use Rattle.free_groupoid.proofs.Telescope.{collapse_injective}
use Rattle.free_groupoid.proofs.InnerMaps.{inner_along, inner_carries}
use Rattle.free_groupoid.proofs.OuterEdges.{edge_at_outer}
use Rattle.free_groupoid.proofs.ClosedWords.{loop_collapsed, each_closed, test_loops}
use Rattle.free_groupoid.proofs.ComputedPaths.{own_root, root_below, kept_inner}

-- ---- what inner maps keep

module _ (triples : List (List ℤ)) (l : Laws triples) (f : ℤ → List ℤ) (f0 : ℕ → ℕ)
    (m : IsMap triples triples f f0) where
  closed_kept : (p : ℕ → List ℤ) → IsInner triples f f0 p → (t : ℕ) (w : List ℤ) → IsWalk triples t w t
      → IsKept f (cyclic_reduce w)
  closed_kept p h t w walk =
      carries-kept l.known f (p t) w m.odd (inner_carries l.known triples f f0 p t w h walk)

  pub inner_kept : (p : ℕ → List ℤ) → IsInner triples f f0 p → All (IsKept f) (test_walks triples)
  inner_kept p h = each_closed triples l (IsKept f) (closed_kept p h)

-- ---- one list of reduced walks

module _ (triples : List (List ℤ)) (l : Laws triples) (f : ℤ → List ℤ) (f0 : ℕ → ℕ) (p q : ℕ → List ℤ)
    (h : IsInner triples f f0 p) (k : IsInner triples f f0 q) where
  -- from the one walk of a root back along the other
  abbrev around : ℕ → List ℤ
  around r = p r ++ inverse_word (q r)

  around_closed : (r : ℕ) → r < length triples → IsWalk triples r (around r) r
  around_closed r below =
      l.walks.join r (f0 r) r (p r) (inverse_word (q r)) (h.walks r below)
      (l.walks.back r (f0 r) (q r) (k.walks r below))

  -- it commutes with each closed walk
  around_commutes : (r : ℕ) (w : List ℤ) → IsWalk triples r w r → Carries (around r) w w
  around_commutes r w walk =
      by_fact l.known names (+2 ∷ +0 ∷ -1 ∷ []) (+0 ∷ +3 ∷ -1 ∷ []) [] (+2 ∷ +0 ∷ []) (+0 ∷ +3 ∷ []) (-1 ∷ []) refl
      (sym (inner_along l.known triples f f0 p r r w h walk)) refl
      ∙ by_fact l.known names (+0 ∷ +3 ∷ -1 ∷ []) (+0 ∷ -1 ∷ +2 ∷ []) (+0 ∷ -1 ∷ []) (+1 ∷ +3 ∷ []) (+2 ∷ +1 ∷ [])
      (-1 ∷ []) refl
      (inner_along l.known triples f f0 q r r w k walk) refl
      ∙ ap reduce (sym (append_assoc (p r) (inverse_word (q r)) w))
    where
      names : List (List ℤ)
      names = p r ∷ q r ∷ w ∷ flat_map f w ∷ []

  -- collapsed, it commutes with the letters of outer edges
  around_letter : (r e : ℕ) → IsOuter triples r (pos e)
      → Carries (flat_map (collapse triples r) (around r)) (pos e ∷ []) (pos e ∷ [])
  around_letter r e out =
      subst (λ (z : List ℤ). Carries (flat_map (collapse triples r) (around r)) z z) (loop_collapsed triples l r e out)
      (carries_image l.known (collapse triples r) (around r) (loop triples (pos e)) (loop triples (pos e))
      (collapse-odd l.known triples r)
      (around_commutes r (loop triples (pos e)) (loop_closed triples l (pos e) r out.label out.root)))

  same_at_root : (t : ℕ) → t < length triples → reduce (p (root_of triples t)) ≡ reduce (q (root_of triples t))
  same_at_root t below =
      let r : ℕ = root_of triples t in
      let (i, j, ne, a, b) = l.forest.outside t below in
      let nothing : reduce (flat_map (collapse triples r) (around r)) ≡ [] =
      centraliser l.known (pos i) (pos j) (flat_map (collapse triples r) (around r)) ne
      (around_letter r i (edge_at_outer triples r i a)) (around_letter r j (edge_at_outer triples r j b)) in
      let closed : reduce (around r) ≡ reduce [] =
      collapse_injective triples l r r r (around r) [] (own_root triples l t below)
      (around_closed r (root_below triples l t below)) refl nothing in
      by_fact l.known (p r ∷ q r ∷ []) (+0 ∷ []) (+1 ∷ []) [] (+0 ∷ -1 ∷ []) [] (+1 ∷ []) refl closed refl

  -- a walk of an inner map is that of the root between the tree and its image
  from_root : (o : ℕ → List ℤ) → IsInner triples f f0 o → (t : ℕ) → t < length triples
      → reduce (o t) ≡ reduce (inverse_word (tree_walk triples t) ++
      (o (root_of triples t) ++ flat_map f (tree_walk triples t)))
  from_root o n t below =
      by_fact l.known
      (tree_walk triples t ∷ o (root_of triples t) ∷ flat_map f (tree_walk triples t) ∷ o t ∷ []) (+3 ∷ [])
      (-0 ∷ +1 ∷ +2 ∷ [])
      (-0 ∷ []) (+0 ∷ +3 ∷ []) (+1 ∷ +2 ∷ []) [] refl
      (sym (inner_along l.known triples f f0 o (root_of triples t) t (tree_walk triples t) n (l.forest.walk t below)))
      refl

  pub same_walks : (t : ℕ) → t < length triples → reduce (p t) ≡ reduce (q t)
  same_walks t below =
      from_root p h t below
      ∙ reduce-inside l.known (inverse_word (tree_walk triples t)) (p (root_of triples t)) (q (root_of triples t))
      (flat_map f (tree_walk triples t))
      (same_at_root t below)
      ∙ sym (from_root q k t below)

-- ---- the laws

pub inner_test_laws : ((triples : List (List ℤ)) → IsTriangulation triples → Laws triples) → InnerLaws
inner_test_laws laws = record {
  loops = λ triples tri. test_loops triples (laws triples tri);
  kept = λ triples f f0 p tri m h. inner_kept triples (laws triples tri) f f0 m p h;
  inner = λ triples f f0 tri m kept. kept_inner triples (laws triples tri) f f0 m kept;
  only = λ triples f f0 p q tri h k t below. same_walks triples (laws triples tri) f f0 p q h k t below;
}
