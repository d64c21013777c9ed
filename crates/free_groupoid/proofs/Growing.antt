-- A tree that grows until no node waits: then each side of its triangles leads to a node of the same tree.
--
-- A turn tries the sides of one node. A side whose other triangle is new adds a node there, which waits; the facts
-- about the nodes stay, as the forest stays one and what was beyond stays there. A new triangle is not below the root
-- of the tree, since those are reached already. After the turn the node's sides are closed: each leads to a node of
-- its tree. The number of triangles that are missing and of nodes that wait has not risen, apart from the node whose
-- turn it was.
use Rattle.std.proofs.Common.{ℕ, ℤ, true, false, List, [], ◌∷◌, ◌++◌, ◌≡◌, ◌≤◌, ◌⊎◌, inl, inr, refl, sym, ◌∙◌, ap}
use Rattle.std.proofs.Common.{subst, append_assoc, arith, length, length-append}
use Rattle.std.specs.List.{Contains}
use Rattle.std.proofs.lemmas.Bool.{cases_Bool, cond-true, cond-false, cases_lt, both_ways}
use Rattle.std.proofs.lemmas.List.Elements.{Contains-append_left, Contains-push, Contains-push_cases}
use Rattle.ideal_tri.specs.Labels.{inverse}
use Rattle.ideal_tri.specs.Triangulations.{IsLabel, triangle_of}
use Rattle.free_groupoid.specs.TestWalks.{Node, node_beyond, has_node, sprout}
use Rattle.free_groupoid.proofs.Known.{Glued}
use Rattle.free_groupoid.proofs.Members.{member_here, member_later, member_cases, no_member}
use Rattle.free_groupoid.proofs.Nodes.{still_reached, missing, missing-new}
use Rattle.free_groupoid.proofs.Forests.{IsForest}
use Rattle.free_groupoid.proofs.Sprouts.{IsOpen}
use Rattle.free_groupoid.proofs.Additions.{sprouted_forest}
use Rattle.free_groupoid.proofs.NodeTurns.{IsBeyond, IsClosed, IsGrowing, IsTurning, closed_more, beyond_more}
use Rattle.free_groupoid.proofs.NodeTurns.{turn_past}

module _ (triples : List (List ℤ)) (glue : Glued triples) (r bound : ℕ) (n : Node) (done : List Node) where
  -- ---- a side whose other triangle is new

  turn_new : (queue : List Node) (x : ℤ) (sides : List ℤ) → IsTurning triples r bound n done queue (x ∷ sides)
      → has_node (done ++ queue) (triangle_of triples (inverse x)) ≡ false
      → IsTurning triples r bound n done (queue ++ (node_beyond triples n x ∷ [])) sides
  turn_new queue x sides g h = record {
    forest = subst (IsForest triples) regroup (sprouted_forest triples glue (done ++ queue) g.forest n x is_open least);
    here = g.here;
    mine = g.mine;
    closed = λ m k. still_closed m (g.closed m k);
    tried = λ y label at. still_tried y (g.tried y label at);
    left = λ y k. g.left y (member_later x sides y k);
    waiting = λ m k. waits m (Contains-push_cases queue new m k);
    below = λ i k. reached i (g.below i k);
    root = reached r g.root;
    few =
        omega (
          arith,
          g.few,
          ap (missing (length triples)) regroup,
          length-append queue (new ∷ []),
          missing-new (length triples) (done ++ queue) new
              (glue.triangles.triangle (inverse x) (glue.known.labels.label triples x side.0)) h,
        );
  }
    where
      new : Node
      new = node_beyond triples n x

      more : List Node
      more = done ++ (queue ++ (new ∷ []))

      regroup : (done ++ queue) ++ (new ∷ []) ≡ more
      regroup = append_assoc done queue (new ∷ [])

      side : IsLabel triples x × (triangle_of triples x ≡ n.triangle)
      side = g.left x (member_here x sides)

      is_open : IsOpen triples (done ++ queue) n x
      is_open = record { there = Contains-append_left done queue n g.here; label = side.0; at = side.1; new = h }

      -- all triangles below the root are reached
      least : n.root ≤ triangle_of triples (inverse x)
      least =
          elim (cases_lt (triangle_of triples (inverse x)) r) [
            | inl lower ↦
                absurd (both_ways (has_node (done ++ queue) (triangle_of triples (inverse x))) h
                (g.below (triangle_of triples (inverse x)) lower))
            | inr above ↦ omega (arith, above, g.mine)
          ]

      into : (m : Node) → Contains (done ++ queue) m → Contains more m
      into m k = subst (λ (ms : List Node). Contains ms m) regroup (Contains-append_left (done ++ queue) (new ∷ []) m k)

      reached : (i : ℕ) → has_node (done ++ queue) i ≡ true → has_node more i ≡ true
      reached i k = ap (λ (ms : List Node). has_node ms i) (sym regroup) ∙ still_reached (done ++ queue) new i k

      still_closed : (m : Node) → (m ≡ n) ⊎ IsClosed triples (done ++ queue) m → (m ≡ n) ⊎ IsClosed triples more m
      still_closed m (inl e) = inl e
      still_closed m (inr c) = inr (closed_more triples (done ++ queue) more m into c)

      still_tried : (y : ℤ) → Contains (x ∷ sides) y ⊎ IsBeyond triples (done ++ queue) n y
          → Contains sides y ⊎ IsBeyond triples more n y
      still_tried y (inr b) = inr (beyond_more triples (done ++ queue) more n y into b)
      still_tried y (inl k) =
          elim (member_cases x sides y k) [
            | inl e ↦
                inr (record {
                  node = new;
                  there = subst (λ (ms : List Node). Contains ms new) regroup (Contains-push (done ++ queue) new);
                  at = ap (λ (z : ℤ). triangle_of triples (inverse z)) e;
                  root = refl;
                })
            | inr later ↦ inl later
          ]

      waits : (m : Node) → Contains queue m ⊎ (new ≡ m) → m.root ≡ r
      waits m (inl k) = g.waiting m k
      waits m (inr e) = ap (λ (k : Node). k.root) (sym e) ∙ g.mine

  -- ---- the whole turn

  turned : (queue : List Node) → IsTurning triples r bound n done queue [] → IsGrowing triples r bound done queue
  turned queue g = record {
    forest = g.forest;
    closed = λ m k. go m (g.closed m k);
    waiting = g.waiting;
    below = g.below;
    root = g.root;
    few = g.few;
  }
    where
      beyond : (x : ℤ) → Contains [] x ⊎ IsBeyond triples (done ++ queue) n x → IsBeyond triples (done ++ queue) n x
      beyond x (inl k) = absurd (no_member x k)
      beyond x (inr b) = b

      go : (m : Node) → (m ≡ n) ⊎ IsClosed triples (done ++ queue) m → IsClosed triples (done ++ queue) m
      go m (inl e) =
          subst (IsClosed triples (done ++ queue)) (sym e)
          (record { beyond = λ x label at. beyond x (g.tried x label at) })
      go m (inr c) = c

  pub turn : (sides : List ℤ) (queue : List Node) → IsTurning triples r bound n done queue sides
      → IsGrowing triples r bound done (sprout triples n sides done queue)
  turn [] queue g = turned queue g
  turn (x ∷ sides) queue g =
      elim (cases_Bool (has_node (done ++ queue) (triangle_of triples (inverse x)))) [
        | inl h ↦
            subst (IsGrowing triples r bound done)
            (sym (cond-true (has_node (done ++ queue) (triangle_of triples (inverse x))) past new h))
            (turn sides queue (turn_past triples glue r bound n done queue x sides g h))
        | inr h ↦
            subst (IsGrowing triples r bound done)
            (sym (cond-false (has_node (done ++ queue) (triangle_of triples (inverse x))) past new h))
            (turn sides (queue ++ (node_beyond triples n x ∷ [])) (turn_new queue x sides g h))
      ]
    where
      past : List Node
      past = sprout triples n sides done queue

      new : List Node
      new = sprout triples n sides done (queue ++ (node_beyond triples n x ∷ []))
