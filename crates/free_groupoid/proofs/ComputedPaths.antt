-- The walks computed from the loops of two edges make a map inner where it keeps all test walks.
--
-- At a root there are two outer edges at least, since the forest leaves two outside in each component; they come in
-- rising order, so the first two of the list are different. The collapsed image of the loop of an edge is conjugate
-- to the letter of the edge, so the letter stands in its middle and the second half conjugates. The word that the two
-- halves share carries the letter of each outer edge to its image. Its letters are outer, so their loops, and the
-- walk along the tree to the image of the root, are a walk that carries all loops to their images; and that gives a
-- walk for each triangle.
use Rattle.std.proofs.Common.{ℕ, ℤ, pos, List, [], ◌∷◌, ◌≡◌, ◌≢◌, ◌<◌, inl, inr, refl, sym, ◌∙◌, subst, arith, length}
use Rattle.std.proofs.Common.{◌+◌, ◌/◌}
use Rattle.std.specs.List.{All, Contains, flat_map}
use Rattle.std.proofs.lemmas.List.Elements.{All-drop}
use Rattle.ideal_tri.specs.Triangulations.{IsWalk}
use Rattle.tri_atlas.specs.Maps.{IsMap}
use Rattle.free_groupoid.specs.TestWalks.{root_of, tree_walk, loop, outer_edges, edges_at, test_walks}
use Rattle.free_groupoid.specs.Inner.{IsInner, IsKept}
use Rattle.free_groupoid.specs.inside.InnerPaths.{collapse, collapsed_image, second_half, shared, conjugator, root_path}
use Rattle.free_groupoid.specs.inside.InnerPaths.{inner_path}
use Rattle.free_groupoid.proofs.Members.{member_here, member_later, member_cases, no_member}
use Rattle.free_groupoid.proofs.Reduced.{reduce-keeps}
use Rattle.free_groupoid.proofs.Carrying.{Carries}
use Rattle.free_groupoid.proofs.Halves.{second_half_carries}
use Rattle.free_groupoid.proofs.ThirdLetter.{shared_keeps}
use Rattle.free_groupoid.proofs.Collapse.{IsOuter, collapsed-outer}
use Rattle.free_groupoid.proofs.Known.{Laws}
use Rattle.free_groupoid.proofs.Telescope.{walk_component}
use Rattle.free_groupoid.proofs.OuterEdges.{Rise, edges_rise}
use Rattle.free_groupoid.proofs.RootPaths.{CarriesLoops, inner_from_roots}
use Rattle.free_groupoid.proofs.Conjugators.{letter_carried, shared_serves}
use Rattle.free_groupoid.proofs.RootWalks.{outer_back, root_stays, spread_carries}

-- ---- roots

-- a walk to a triangle starts at a triangle
starts_below : (triples : List (List ℤ)) → Laws triples → (s t : ℕ) (w : List ℤ) → IsWalk triples s w t
    → t < length triples → s < length triples
starts_below triples l s t [] h below = subst (λ (i : ℕ). i < length triples) (sym h) below
starts_below triples l s t (x ∷ w) h below = subst (λ (i : ℕ). i < length triples) h.1 (l.triangles.triangle x h.0)

module _ (triples : List (List ℤ)) (l : Laws triples) (t : ℕ) (below : t < length triples) where
  -- a root is its own root
  pub own_root : root_of triples (root_of triples t) ≡ root_of triples t
  own_root = sym (walk_component triples l (root_of triples t) t (tree_walk triples t) (l.forest.walk t below))

  pub root_below : root_of triples t < length triples
  root_below = starts_below triples l (root_of triples t) t (tree_walk triples t) (l.forest.walk t below) below

module _ (triples : List (List ℤ)) (l : Laws triples) (f : ℤ → List ℤ) (f0 : ℕ → ℕ) (m : IsMap triples triples f f0)
    (kept : All (IsKept f) (test_walks triples)) where
  module _ (r : ℕ) where
    abbrev edges : List ℕ
    edges = edges_at triples r (outer_edges triples)

    half_serves : (e : ℕ) → Contains edges e
        → Carries (second_half (collapsed_image triples f r e)) (pos e ∷ []) (collapsed_image triples f r e)
    half_serves e h =
        let (q, carries) = letter_carried triples l f f0 m kept r e h in
        second_half_carries l.known (pos e) q (collapsed_image triples f r e)
        (l.known.words.reduction.is_reduced (flat_map (collapse triples r) (flat_map f (loop triples (pos e))))) carries

    half_outer : (e : ℕ) → All (IsOuter triples r) (second_half (collapsed_image triples f r e))
    half_outer e =
        All-drop (IsOuter triples r) ((length (collapsed_image triples f r e) + 1) / 2) (collapsed_image triples f r e)
        (reduce-keeps (IsOuter triples r) l.known (flat_map (collapse triples r) (flat_map f (loop triples (pos e))))
        (collapsed-outer triples l.forest r (flat_map f (loop triples (pos e)))))

    -- the word that is computed is made of outer letters, and serves
    record Serves (h : List ℤ) : Type 0 where
      outer : All (IsOuter triples r) h
      carries : (e : ℕ) → Contains edges e → Carries h (pos e ∷ []) (collapsed_image triples f r e)

    two_serve : (i j : ℕ) → i ≢ j → Contains edges i → Contains edges j
        → Serves (shared (pos i) (second_half (collapsed_image triples f r i))
        (second_half (collapsed_image triples f r j)))
    two_serve i j ne h k = record {
      outer =
          shared_keeps l.known (IsOuter triples r) (outer_back triples l r) (pos i)
          (second_half (collapsed_image triples f r i)) (second_half (collapsed_image triples f r j)) (half_outer i)
          (half_outer j);
      carries =
          shared_serves triples l f f0 m kept r i j (second_half (collapsed_image triples f r i))
          (second_half (collapsed_image triples f r j)) ne h k
          (half_serves i h) (half_serves j k);
    }

    -- the first two edges of the list serve, since there are two
    conjugator_serves : (list : List ℕ) → edges ≡ list → Rise 0 list → (i j : ℕ) → i ≢ j → Contains list i
        → Contains list j
        → Serves (conjugator triples f r list)
    conjugator_serves [] e rise i j ne h k = absurd (no_member i h)
    conjugator_serves (a ∷ []) e rise i j ne h k = absurd (ne (sym (only i h) ∙ only j k))
      where
        only : (n : ℕ) → Contains {X = ℕ} (a ∷ []) n → a ≡ n
        only n c =
            elim (member_cases a [] n c) [
              | inl here ↦ here
              | inr none ↦ absurd (no_member n none)
            ]
    conjugator_serves (a ∷ (b ∷ list)) e rise i j ne h k =
        two_serve a b (λ same. omega (arith, rise.1.0, same))
        (subst (λ (es : List ℕ). Contains es a) (sym e) (member_here a (b ∷ list)))
        (subst (λ (es : List ℕ). Contains es b) (sym e) (member_later a (b ∷ list) b (member_here b list)))

  -- ---- the walks

  root_path_carries : (t : ℕ) → t < length triples
      → CarriesLoops triples f f0 (root_of triples t) (root_path triples f f0 (root_of triples t))
  root_path_carries t below =
      let r : ℕ = root_of triples t in
      let (i, j, ne, h, k) = l.forest.outside t below in
      let serves = conjugator_serves r (edges r) refl (edges_rise triples r) i j ne h k in
      spread_carries triples l f f0 m kept r (own_root triples l t below) (conjugator triples f r (edges r))
      (m.within r (root_below triples l t below))
      (root_stays triples l f f0 m kept r (own_root triples l t below) i h) serves.outer serves.carries

  pub kept_inner : IsInner triples f f0 (inner_path triples f f0)
  kept_inner = inner_from_roots triples l f f0 m (root_path triples f f0) root_path_carries
