-- Closed walks cyclically reduced: they are closed walks, keep to a component, and test walks are not empty.
--
-- The free reduction of a closed walk w is p c p⁻¹ with its cyclic reduction c. It is a walk, so p, c and p⁻¹ are
-- walks one after another; p and p⁻¹ join the same two triangles, so c is closed. The letters of c are letters of the
-- reduction, and so of the component where w starts. If c is empty, w is conjugate to the empty word, and so is what
-- is left of w when the forest is collapsed. The loop of an outer edge collapses to one letter, and the product of
-- two loops to two letters that are not inverse to each other: neither reduces to nothing, so no test walk is empty.
use Rattle.std.proofs.Common.{ℕ, ℤ, pos, List, [], ◌∷◌, ◌++◌, ◌≡◌, refl, sym, ◌∙◌, ap, subst}
use Rattle.std.specs.List.{All, Contains, flat_map}
use Rattle.std.proofs.lemmas.List.{append-nil}
use Rattle.std.proofs.lemmas.List.Concat.{flat_map-append}
use Rattle.ideal_tri.specs.Words.{inverse_word, reduce, cyclic_reduce, IsReduced, IsCyclicallyReduced, IsRotation}
use Rattle.ideal_tri.specs.Triangulations.{IsWalk}
use Rattle.free_groupoid.specs.TestWalks.{root_of, outer_edges, root_of_edge, loop, test_walks}
use Rattle.free_groupoid.specs.InnerLaws.{IsReducedLoop}
use Rattle.free_groupoid.specs.inside.InnerPaths.{collapse}
use Rattle.free_groupoid.proofs.Names.{+0, -0, +1, by_fact}
use Rattle.free_groupoid.proofs.Reduced.{All-parts}
use Rattle.free_groupoid.proofs.Carrying.{Carries, carries_image, rotation-carries}
use Rattle.free_groupoid.proofs.Collapse.{IsOuter, collapse-odd, collapse-outer}
use Rattle.free_groupoid.proofs.Known.{Laws}
use Rattle.free_groupoid.proofs.Loops.{loop_closed, collapse-loop}
use Rattle.free_groupoid.proofs.Telescope.{IsIn, walk_letters}
use Rattle.free_groupoid.proofs.OuterEdges.{edge_outer}
use Rattle.free_groupoid.proofs.TestLists.{each_test}

module _ (triples : List (List ℤ)) (l : Laws triples) where
  -- ---- the cyclic reduction of a closed walk

  -- its letters are of the component where the walk starts
  pub core_letters : (r s t : ℕ) (w : List ℤ) → root_of triples s ≡ r → IsWalk triples s w t
      → All (IsIn triples l r) (cyclic_reduce w)
  core_letters r s t w root walk =
      let (p, shape) = l.known.words.cyclic.shape w in
      let all : All (IsIn triples l r) (p ++ (cyclic_reduce w ++ inverse_word p)) =
      subst (All (IsIn triples l r)) shape (walk_letters triples l r s t (reduce w) root (l.walks.reduced s t w walk))
      in
      (All-parts (IsIn triples l r) (cyclic_reduce w) (inverse_word p)
      (All-parts (IsIn triples l r) p (cyclic_reduce w ++ inverse_word p) all).1).0

  -- where it is empty, the walk collapses to nothing
  pub empty_core : (r : ℕ) (w : List ℤ) → cyclic_reduce w ≡ [] → reduce (flat_map (collapse triples r) w) ≡ []
  empty_core r w e =
      let (q, carries) =
      rotation-carries l.known w []
      (subst (IsRotation (cyclic_reduce w)) (e ∙ sym (l.known.words.cyclic.fixed [] tt))
      (l.known.words.rotations.same (cyclic_reduce w))) in
      let image : Carries (flat_map (collapse triples r) q) (flat_map (collapse triples r) w) [] =
      carries_image l.known (collapse triples r) q w [] (collapse-odd l.known triples r) carries in
      by_fact l.known (flat_map (collapse triples r) q ∷ flat_map (collapse triples r) w ∷ []) (+1 ∷ []) [] []
      (+1 ∷ +0 ∷ []) (+0 ∷ []) (-0 ∷ [])
      refl (image ∙ ap reduce (append-nil (flat_map (collapse triples r) q))) refl

  -- ---- test walks

  -- what a loop is, and a product of two
  loop_at : (e : ℕ) → Contains (outer_edges triples) e
      → IsWalk triples (root_of_edge triples e) (loop triples (pos e)) (root_of_edge triples e)
  loop_at e h = loop_closed triples l (pos e) (root_of_edge triples e) (edge_outer triples e h).label refl

  product_at : (r i j : ℕ) → IsWalk triples r (loop triples (pos i)) r → IsWalk triples r (loop triples (pos j)) r
      → IsWalk triples r (loop triples (pos i) ++ loop triples (pos j)) r
  product_at r i j h k = l.walks.join r r r (loop triples (pos i)) (loop triples (pos j)) h k

  pub loop_collapsed : (r e : ℕ) → IsOuter triples r (pos e)
      → flat_map (collapse triples r) (loop triples (pos e)) ≡ pos e ∷ []
  loop_collapsed r e h = collapse-loop triples l r (pos e) h.label ∙ collapse-outer triples l.forest r (pos e) h

  pub product_collapsed : (r i j : ℕ) → IsOuter triples r (pos i) → IsOuter triples r (pos j)
      → flat_map (collapse triples r) (loop triples (pos i) ++ loop triples (pos j)) ≡ pos i ∷ (pos j ∷ [])
  product_collapsed r i j h k =
      flat_map-append (collapse triples r) (loop triples (pos i)) (loop triples (pos j))
      ∙ ap (λ (z : List ℤ). z ++ flat_map (collapse triples r) (loop triples (pos j))) (loop_collapsed r i h)
      ∙ ap (λ (z : List ℤ). pos i ∷ z) (loop_collapsed r j k)

  -- each test walk is the cyclic reduction of a closed walk
  pub each_closed : (P : List ℤ → Type 0) → ((t : ℕ) (w : List ℤ) → IsWalk triples t w t → P (cyclic_reduce w))
      → All P (test_walks triples)
  each_closed P h =
      each_test triples P (λ e k. h (root_of_edge triples e) (loop triples (pos e)) (loop_at e k))
      (λ i j k n e. h (root_of_edge triples i) (loop triples (pos i) ++ loop triples (pos j))
      (product_at (root_of_edge triples i) i j (loop_at i k)
      (subst (λ (a : ℕ). IsWalk triples a (loop triples (pos j)) a) e (loop_at j n))))

  -- a closed walk that doesn't collapse to nothing
  reduced_loop : (r s : ℕ) (w : List ℤ) (x : ℤ) (rest : List ℤ) → IsWalk triples s w s
      → flat_map (collapse triples r) w ≡ x ∷ rest
      → IsReduced (x ∷ rest) → IsReducedLoop triples (cyclic_reduce w)
  reduced_loop r s w x rest walk collapsed reduced =
      go (cyclic_reduce w) refl (l.walks.core s w walk) (l.known.words.cyclic.is_reduced w)
    where
      go : (v : List ℤ) → cyclic_reduce w ≡ v → (t : ℕ) × IsWalk triples t (cyclic_reduce w) t
          → IsCyclicallyReduced (cyclic_reduce w)
          → IsReducedLoop triples (cyclic_reduce w)
      go [] e (t, h) c =
          let nothing : x ∷ rest ≡ [] =
          sym (l.known.words.reduction.fixed (x ∷ rest) reduced) ∙ ap reduce (sym collapsed) ∙ empty_core r w e in
          absurd (cc)
      go (y ∷ v) e (t, h) c =
          let walk_at : IsWalk triples t (y ∷ v) t = subst (λ (z : List ℤ). IsWalk triples t z t) e h in
          subst (IsReducedLoop triples) (sym e)
          (subst (λ (i : ℕ). IsWalk triples i (y ∷ v) i) (sym walk_at.1) walk_at, subst IsCyclicallyReduced e c)

  pub test_loops : All (IsReducedLoop triples) (test_walks triples)
  test_loops =
      each_test triples (IsReducedLoop triples)
      (λ e h. reduced_loop (root_of_edge triples e) (root_of_edge triples e) (loop triples (pos e)) (pos e) []
      (loop_at e h)
      (loop_collapsed (root_of_edge triples e) e (edge_outer triples e h)) tt)
      (λ i j h k e. let second : IsOuter triples (root_of_edge triples i) (pos j) = subst
      (λ (a : ℕ). IsOuter triples a (pos j)) e (edge_outer triples j k) in
      reduced_loop (root_of_edge triples i) (root_of_edge triples i) (loop triples (pos i) ++ loop triples (pos j))
      (pos i) (pos j ∷ [])
      (product_at (root_of_edge triples i) i j (loop_at i h)
      (subst (λ (a : ℕ). IsWalk triples a (loop triples (pos j)) a) e (loop_at j k)))
      (product_collapsed (root_of_edge triples i) i j (edge_outer triples i h) second) (λ c. cc, tt))
