-- The node at a triangle, its walk, and steps across the edges that the forest crosses.
--
-- Each triangle is reached, and no two nodes are at one triangle, so the node that is found there is the only one. A
-- side leads to a node of the same tree, so both triangles of a label have the same root. The letters of a walk are
-- last letters of walks: of its own, and of those of the nodes that it passes, by induction on the number of letters.
-- A tree edge is crossed by the last step of some node. Across it in that direction the walks of its triangles differ
-- by the letter, as lists; in the other direction the letter cancels that step.
use Rattle.std.proofs.Common.{ℕ, ℤ, zero, suc, Bool, true, List, [], ◌∷◌, ◌++◌, ◌≡◌, ◌<◌, ◌≤◌, ◌||◌, ◌⊎◌, inl, inr}
use Rattle.std.proofs.Common.{refl, sym, ◌∙◌, ap, subst, append_assoc, arith, length, length-append, nat_eq}
use Rattle.std.specs.List.{All, Contains}
use Rattle.std.proofs.lemmas.Bool.{cases_Bool, cond-true, cond-false, eqb-true, eq-eqb, false≢true}
use Rattle.std.proofs.lemmas.List.{append-nil}
use Rattle.std.proofs.lemmas.List.Elements.{All-nil, All-push}
use Rattle.ideal_tri.specs.Labels.{inverse, edge_of}
use Rattle.ideal_tri.specs.Words.{reduce}
use Rattle.ideal_tri.specs.Triangulations.{IsLabel, IsWalk, triangle_of}
use Rattle.free_groupoid.specs.TestWalks.{Node, root_node, node_at, has_node, ends_across}
use Rattle.free_groupoid.proofs.Known.{Glued}
use Rattle.free_groupoid.proofs.Members.{member_here, member_later}
use Rattle.free_groupoid.proofs.Nodes.{is_crossed, crossed_by, crossing_node, ends_across-push}
use Rattle.free_groupoid.proofs.Forests.{StandsBeyond}
use Rattle.free_groupoid.proofs.NodeTurns.{IsBeyond}
use Rattle.free_groupoid.proofs.Planting.{IsGrown}

-- ---- the node at a triangle

pub record IsNodeAt (nodes : List Node) (t : ℕ) (n : Node) : Type 0 where
  pub there : Contains nodes n
  pub at : n.triangle ≡ t

found : (nodes : List Node) (t : ℕ) → has_node nodes t ≡ true → IsNodeAt nodes t (node_at nodes t)
found [] t h = absurd (false≢true h)
found (n ∷ nodes) t h =
    elim (cases_Bool (nat_eq n.triangle t)) [
      | inl here ↦
          subst (IsNodeAt (n ∷ nodes) t) (sym (cond-true (nat_eq n.triangle t) n (node_at nodes t) here))
          (record { there = member_here n nodes; at = eqb-true n.triangle t here })
      | inr later ↦
          (let rest : IsNodeAt nodes t (node_at nodes t) = found nodes t
          (ap (λ (b : Bool). b || has_node nodes t) (sym later) ∙ h) in
          subst (IsNodeAt (n ∷ nodes) t) (sym (cond-false (nat_eq n.triangle t) n (node_at nodes t) later))
          (record { there = member_later n nodes (node_at nodes t) rest.there; at = rest.at }))
    ]

module _ (triples : List (List ℤ)) (glue : Glued triples) (nodes : List Node)
    (g : IsGrown triples (length triples) nodes) where
  pub node_is_at : (i : ℕ) → i < length triples → IsNodeAt nodes i (node_at nodes i)
  node_is_at i below = found nodes i (g.below i below)

  -- the node that is looked up is the only one
  pub only_node : (n : Node) (i : ℕ) → Contains nodes n → n.triangle ≡ i → node_at nodes i ≡ n
  only_node n i there e =
      let below : i < length triples = subst (λ (k : ℕ). k < length triples) e (g.forest.inside n there) in
      let looked_up : IsNodeAt nodes i (node_at nodes i) = node_is_at i below in
      g.forest.one (node_at nodes i) n looked_up.there there (looked_up.at ∙ sym e)

  pub node_walk : (i : ℕ) → i < length triples → IsWalk triples (node_at nodes i).root (node_at nodes i).walk i
  node_walk i below =
      let n : IsNodeAt nodes i (node_at nodes i) = node_is_at i below in
      subst (λ (k : ℕ). IsWalk triples (node_at nodes i).root (node_at nodes i).walk k) n.at
      (g.forest.walk (node_at nodes i) n.there)

  pub node_least : (i : ℕ) → i < length triples → (node_at nodes i).root ≤ i
  node_least i below =
      let n : IsNodeAt nodes i (node_at nodes i) = node_is_at i below in
      omega (arith, g.forest.least (node_at nodes i) n.there, n.at)

  pub node_component : (x : ℤ) → IsLabel triples x
      → (node_at nodes (triangle_of triples (inverse x))).root ≡ (node_at nodes (triangle_of triples x)).root
  node_component x label =
      let n : IsNodeAt nodes (triangle_of triples x) (node_at nodes (triangle_of triples x)) =
      node_is_at (triangle_of triples x) (glue.triangles.triangle x label) in
      let b : IsBeyond triples nodes (node_at nodes (triangle_of triples x)) x =
      (g.closed (node_at nodes (triangle_of triples x)) n.there).beyond x label (sym n.at) in
      ap (λ (m : Node). m.root) (only_node b.node (triangle_of triples (inverse x)) b.there b.at) ∙ b.root

  -- ---- tree edges

  -- a node's letters, by their number
  pub node_letters : (k : ℕ) (n : Node) → length n.walk ≤ k → Contains nodes n
      → All (λ x. is_crossed nodes (edge_of x) ≡ true) n.walk
  node_letters k n short there = go k n short there (g.forest.comes n there)
    where
      go : (k : ℕ) (n : Node) → length n.walk ≤ k → Contains nodes n
          → (n ≡ root_node n.triangle) ⊎ StandsBeyond triples nodes n
          → All (λ x. is_crossed nodes (edge_of x) ≡ true) n.walk
      go k n short there (inl root) =
          subst (λ (w : List ℤ). All (λ x. is_crossed nodes (edge_of x) ≡ true) w)
          (ap (λ (m : Node). m.walk) (sym root))
          (All-nil (λ x. is_crossed nodes (edge_of x) ≡ true))
      go zero n short there (inr b) =
          absurd (omega (arith, short, ap (λ (m : Node). length m.walk) b.is, length-append b.from.walk (b.side ∷ [])))
      go (suc k) n short there (inr b) =
          subst (λ (w : List ℤ). All (λ x. is_crossed nodes (edge_of x) ≡ true) w)
          (ap (λ (m : Node). m.walk) (sym b.is))
          (All-push (λ x. is_crossed nodes (edge_of x) ≡ true) b.from.walk b.side
          (go k b.from (omega
          (arith, short, ap (λ (m : Node). length m.walk) b.is, length-append b.from.walk (b.side ∷ []))) b.there
          (g.forest.comes b.from b.there))
          (crossed_by nodes n (edge_of b.side) there
          (ap (λ (m : Node). ends_across (edge_of b.side) m.walk) b.is
          ∙ ends_across-push (edge_of b.side) b.from.walk b.side
          ∙ eq-eqb (edge_of b.side) (edge_of b.side) refl)))

  -- across the side of a node's last step
  step_across : (n : Node) → Contains nodes n → (b : StandsBeyond triples nodes n) → (x : ℤ)
      → (x ≡ b.side) ⊎ (x ≡ inverse b.side)
      → reduce ((node_at nodes (triangle_of triples x)).walk ++ (x ∷ [])) ≡ reduce
      (node_at nodes (triangle_of triples (inverse x))).walk
  step_across n there b x (inl e) =
      ap reduce
      (ap (λ (m : Node). m.walk ++ (x ∷ []))
      (only_node b.from (triangle_of triples x) b.there (sym b.at ∙ ap (triangle_of triples) (sym e)))
      ∙ ap (λ (z : ℤ). b.from.walk ++ (z ∷ [])) e
      ∙ ap (λ (m : Node). m.walk) (sym b.is)
      ∙ ap (λ (m : Node). m.walk)
      (sym (only_node n (triangle_of triples (inverse x)) there
      (ap (λ (m : Node). m.triangle) b.is ∙ ap (λ (z : ℤ). triangle_of triples (inverse z)) (sym e)))))
  step_across n there b x (inr e) =
      ap (λ (m : Node). reduce (m.walk ++ (x ∷ [])))
      (only_node n (triangle_of triples x) there
      (ap (λ (m : Node). m.triangle) b.is ∙ ap (triangle_of triples) (sym e)))
      ∙ ap (λ (m : Node). reduce (m.walk ++ (x ∷ []))) b.is
      ∙ ap reduce (append_assoc b.from.walk (b.side ∷ []) (x ∷ []))
      ∙ ap (λ (z : ℤ). reduce (b.from.walk ++ (b.side ∷ (z ∷ [])))) e
      ∙ glue.known.words.reduction.cancel b.from.walk (b.side ∷ []) []
      ∙ ap reduce (append-nil b.from.walk)
      ∙ ap (λ (m : Node). reduce m.walk)
      (sym (only_node b.from (triangle_of triples (inverse x)) b.there
      (sym b.at ∙ ap (triangle_of triples) (sym (ap inverse e ∙ glue.known.labels.twice b.side)))))

  pub node_across : (x : ℤ) → is_crossed nodes (edge_of x) ≡ true
      → reduce ((node_at nodes (triangle_of triples x)).walk ++ (x ∷ [])) ≡ reduce
      (node_at nodes (triangle_of triples (inverse x))).walk
  node_across x h =
      let (n, there, ends) = crossing_node nodes (edge_of x) h in
      go n there ends (g.forest.comes n there)
    where
      go : (n : Node) → Contains nodes n → ends_across (edge_of x) n.walk ≡ true
          → (n ≡ root_node n.triangle) ⊎ StandsBeyond triples nodes n
          → reduce ((node_at nodes (triangle_of triples x)).walk ++ (x ∷ [])) ≡ reduce
          (node_at nodes (triangle_of triples (inverse x))).walk
      go n there ends (inl root) =
          absurd (false≢true (ap (λ (m : Node). ends_across (edge_of x) m.walk) (sym root) ∙ ends))
      go n there ends (inr b) =
          let same_edge : edge_of x ≡ edge_of b.side =
          sym
          (eqb-true (edge_of b.side) (edge_of x)
          (sym (ends_across-push (edge_of x) b.from.walk b.side) ∙ ap (λ (m : Node). ends_across (edge_of x) m.walk)
          (sym b.is) ∙ ends)) in
          step_across n there b x (glue.known.labels.of_edge x b.side same_edge)
