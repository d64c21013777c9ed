-- Trees from all triangles in turn: at the end each triangle is reached, and sides lead to nodes of the same tree.
--
-- A tree begins with a root that waits. Each turn moves one node from those that wait to those that had their turn,
-- so the number of missing triangles and of waiting nodes falls by one; it is at most the number of triangles, which
-- is the bound, so at the end none waits. Then all nodes are closed, and all triangles up to the root are reached.
-- Going through the triangles in turn, a triangle that is reached is passed, and from one that isn't a tree is grown.
use Rattle.std.proofs.Common.{ℕ, ℤ, zero, suc, true, false, List, [], ◌∷◌, ◌++◌, ◌≡◌, ◌<◌, ◌+◌, ◌⊎◌, inl, inr, sym, ◌∙◌}
use Rattle.std.proofs.Common.{ap, subst, append_assoc, arith, length}
use Rattle.std.specs.List.{Contains, range_with_len}
use Rattle.std.proofs.Math.Numerals.{add-one}
use Rattle.std.proofs.lemmas.Bool.{cases_Bool, cond-true, cond-false, cases_eq}
use Rattle.std.proofs.lemmas.List.{append-nil}
use Rattle.std.proofs.lemmas.List.Elements.{Contains-append_left, Contains-push, Contains-push_cases}
use Rattle.free_groupoid.specs.TestWalks.{Node, root_node, has_node, sides_in_order, sprout, grow, plant, forest}
use Rattle.free_groupoid.proofs.Known.{Glued}
use Rattle.free_groupoid.proofs.Sides.{side_of_triangle}
use Rattle.free_groupoid.proofs.SidesInOrder.{side_in_order, in_order_side}
use Rattle.free_groupoid.proofs.Members.{member_here, member_later, member_cases, no_member}
use Rattle.free_groupoid.proofs.Nodes.{still_reached, now_reached, missing, missing-new, missing-le}
use Rattle.free_groupoid.proofs.Forests.{IsForest}
use Rattle.free_groupoid.proofs.Additions.{planted_forest, no_nodes}
use Rattle.free_groupoid.proofs.NodeTurns.{IsClosed, IsGrowing, IsTurning, closed_more}
use Rattle.free_groupoid.proofs.Growing.{turn}

-- ---- a tree

-- the trees have grown, and all triangles below k are reached
pub record IsGrown (triples : List (List ℤ)) (k : ℕ) (nodes : List Node) : Type 0 where
  pub forest : IsForest triples nodes
  pub closed : (n : Node) → Contains nodes n → IsClosed triples nodes n
  pub below : (t : ℕ) → t < k → has_node nodes t ≡ true

module _ (triples : List (List ℤ)) (glue : Glued triples) where
  -- no node waits any more
  all_done : (r bound : ℕ) (done : List Node) → IsGrowing triples r bound done [] → IsGrown triples (suc r) done
  all_done r bound done g = record {
    forest = subst (IsForest triples) (append-nil done) g.forest;
    closed = λ n k. subst (λ (ms : List Node). IsClosed triples ms n) (append-nil done) (g.closed n k);
    below = λ i k. ap (λ (ms : List Node). has_node ms i) (sym (append-nil done)) ∙ go i k;
  }
    where
      go : (i : ℕ) → i < suc r → has_node (done ++ []) i ≡ true
      go i k =
          elim (cases_eq i r) [
            | inl e ↦ ap (has_node (done ++ [])) e ∙ g.root
            | inr ne ↦ g.below i (omega arith)
          ]

  -- the first node that waits has its turn
  begin_turn : (r bound : ℕ) (done : List Node) (n : Node) (queue : List Node)
      → IsGrowing triples r (suc bound) done (n ∷ queue)
      → IsTurning triples r bound n (done ++ (n ∷ [])) queue (sides_in_order triples n.triangle)
  begin_turn r bound done n queue g = record {
    forest = subst (IsForest triples) regroup g.forest;
    here = Contains-push done n;
    mine = g.waiting n (member_here n queue);
    closed = λ m k. go m (Contains-push_cases done n m k);
    tried = λ x label at. inl (side_in_order triples n.triangle x label at);
    left = λ x k. in_order_side triples n.triangle x k;
    waiting = λ m k. g.waiting m (member_later n queue m k);
    below = λ i k. ap (λ (ms : List Node). has_node ms i) (sym regroup) ∙ g.below i k;
    root = ap (λ (ms : List Node). has_node ms r) (sym regroup) ∙ g.root;
    few = omega (arith, g.few, ap (missing (length triples)) regroup);
  }
    where
      regroup : done ++ (n ∷ queue) ≡ (done ++ (n ∷ [])) ++ queue
      regroup = sym (append_assoc done (n ∷ []) queue)

      go : (m : Node) → Contains done m ⊎ (n ≡ m) → (m ≡ n) ⊎ IsClosed triples ((done ++ (n ∷ [])) ++ queue) m
      go m (inl k) = inr (subst (λ (ms : List Node). IsClosed triples ms m) regroup (g.closed m k))
      go m (inr e) = inl (sym e)

  grown : (r bound : ℕ) (done queue : List Node) → IsGrowing triples r bound done queue
      → IsGrown triples (suc r) (grow triples bound done queue)
  grown r zero done [] g =
      subst (IsGrown triples (suc r)) (sym (append-nil done)) (all_done r zero done g)
  grown r zero done (n ∷ queue) g = absurd (omega (arith, g.few))
  grown r (suc bound) done [] g = all_done r (suc bound) done g
  grown r (suc bound) done (n ∷ queue) g =
      grown r bound (done ++ (n ∷ [])) (sprout triples n (sides_in_order triples n.triangle) (done ++ (n ∷ [])) queue)
      (turn triples glue r bound n (done ++ (n ∷ [])) (sides_in_order triples n.triangle) queue
      (begin_turn r bound done n queue g))

  -- ---- all trees

  -- a root that has to wait
  rooted : (r : ℕ) (nodes : List Node) → r < length triples → has_node nodes r ≡ false → IsGrown triples r nodes
      → IsGrowing triples r (length triples) nodes (root_node r ∷ [])
  rooted r nodes below new g = record {
    forest = planted_forest triples glue nodes g.forest r below new (side_of_triangle triples glue r below);
    closed =
        λ n k. closed_more triples nodes (nodes ++ (root_node r ∷ [])) n
        (λ m h. Contains-append_left nodes (root_node r ∷ []) m h) (g.closed n k);
    waiting = λ n k. go n (member_cases (root_node r) [] n k);
    below = λ i k. still_reached nodes (root_node r) i (g.below i k);
    root = now_reached nodes (root_node r);
    few = omega (arith, missing-new (length triples) nodes (root_node r) below new, missing-le (length triples) nodes);
  }
    where
      go : (n : Node) → (root_node r ≡ n) ⊎ Contains [] n → n.root ≡ r
      go n (inl e) = ap (λ (m : Node). m.root) (sym e)
      go n (inr k) = absurd (no_member n k)

  planted : (m k : ℕ) (nodes : List Node) → k + m ≡ length triples → IsGrown triples k nodes
      → IsGrown triples (length triples) (plant triples (range_with_len k m) nodes)
  planted zero k nodes e g = subst (λ (i : ℕ). IsGrown triples i nodes) (omega arith) g
  planted (suc m) k nodes e g =
      elim (cases_Bool (has_node nodes k)) [
        | inl h ↦
            subst (IsGrown triples (length triples)) (sym (cond-true (has_node nodes k) (rest nodes) (rest tree) h))
            (planted m (k + 1) nodes (omega arith)
            (record { forest = g.forest; closed = g.closed; below = λ i b. up_to h i b }))
        | inr h ↦
            subst (IsGrown triples (length triples)) (sym (cond-false (has_node nodes k) (rest nodes) (rest tree) h))
            (planted m (k + 1) tree (omega arith)
            (subst (λ (i : ℕ). IsGrown triples i tree) (sym (add-one k))
            (grown k (length triples) nodes (root_node k ∷ []) (rooted k nodes (omega arith) h g))))
      ]
    where
      tree : List Node
      tree = grow triples (length triples) nodes (root_node k ∷ [])

      rest : List Node → List Node
      rest ms = plant triples (range_with_len (k + 1) m) ms

      up_to : has_node nodes k ≡ true → (i : ℕ) → i < k + 1 → has_node nodes i ≡ true
      up_to h i b =
          elim (cases_eq i k) [
            | inl e' ↦ ap (has_node nodes) e' ∙ h
            | inr ne ↦ g.below i (omega arith)
          ]

pub forest_grown : (triples : List (List ℤ)) → Glued triples → IsGrown triples (length triples) (forest triples)
unfolding forest
forest_grown triples glue =
    planted triples glue (length triples) 0 [] (omega arith)
    (record { forest = no_nodes triples; closed = λ n k. absurd (no_member n k); below = λ i k. absurd (omega arith) })
