-- One node's turn: afterwards each side of its triangle leads to a node of the same tree.
--
-- A side whose other triangle is new gets a node there. Where the triangle has a node already, that node is of the
-- same tree: if it waits, because all waiting nodes are; if it had its turn, because its own sides lead to nodes of
-- its tree, one of them to the triangle of the node whose turn it is, and no two nodes are at one triangle.
use Rattle.std.proofs.Common.{ℕ, ℤ, true, List, ◌∷◌, ◌++◌, ◌≡◌, ◌<◌, ◌≤◌, ◌+◌, ◌⊎◌, inl, inr, sym, ◌∙◌, ap, subst}
use Rattle.std.proofs.Common.{length}
use Rattle.std.specs.List.{Contains}
use Rattle.std.proofs.lemmas.List.Elements.{Contains-append_left, Contains-append_cases}
use Rattle.ideal_tri.specs.Labels.{inverse}
use Rattle.ideal_tri.specs.Triangulations.{IsLabel, triangle_of}
use Rattle.free_groupoid.specs.TestWalks.{Node, has_node}
use Rattle.free_groupoid.proofs.Known.{Glued}
use Rattle.free_groupoid.proofs.Members.{member_here, member_later, member_cases}
use Rattle.free_groupoid.proofs.Nodes.{reaching_node, missing}
use Rattle.free_groupoid.proofs.Forests.{IsForest}

-- the triangle beyond the side x has a node in the tree of n
pub record IsBeyond (triples : List (List ℤ)) (nodes : List Node) (n : Node) (x : ℤ) : Type 0 where
  pub node : Node
  pub there : Contains nodes node
  pub at : node.triangle ≡ triangle_of triples (inverse x)
  pub root : node.root ≡ n.root

-- each side of the node's triangle leads to a node of its tree
pub record IsClosed (triples : List (List ℤ)) (nodes : List Node) (n : Node) : Type 0 where
  pub beyond : (x : ℤ) → IsLabel triples x → triangle_of triples x ≡ n.triangle → IsBeyond triples nodes n x

-- a tree from r grows: the nodes of done had their turn, those of the queue wait
pub record IsGrowing (triples : List (List ℤ)) (r bound : ℕ) (done queue : List Node) : Type 0 where
  pub forest : IsForest triples (done ++ queue)
  pub closed : (n : Node) → Contains done n → IsClosed triples (done ++ queue) n
  pub waiting : (n : Node) → Contains queue n → n.root ≡ r
  pub below : (t : ℕ) → t < r → has_node (done ++ queue) t ≡ true
  pub root : has_node (done ++ queue) r ≡ true
  pub few : missing (length triples) (done ++ queue) + length queue ≤ bound

-- the node n has its turn, and of its sides these are still to be tried
pub record IsTurning (triples : List (List ℤ)) (r bound : ℕ) (n : Node) (done queue : List Node) (sides : List ℤ) : Type
    0 where
  pub forest : IsForest triples (done ++ queue)
  pub here : Contains done n
  pub mine : n.root ≡ r
  pub closed : (m : Node) → Contains done m → (m ≡ n) ⊎ IsClosed triples (done ++ queue) m
  pub tried : (x : ℤ) → IsLabel triples x → triangle_of triples x ≡ n.triangle
      → Contains sides x ⊎ IsBeyond triples (done ++ queue) n x
  pub left : (x : ℤ) → Contains sides x → IsLabel triples x × (triangle_of triples x ≡ n.triangle)
  pub waiting : (m : Node) → Contains queue m → m.root ≡ r
  pub below : (t : ℕ) → t < r → has_node (done ++ queue) t ≡ true
  pub root : has_node (done ++ queue) r ≡ true
  pub few : missing (length triples) (done ++ queue) + length queue ≤ bound

-- what is beyond stays there where nodes are added
pub beyond_more : (triples : List (List ℤ)) (nodes more : List Node) (n : Node) (x : ℤ)
    → ((m : Node) → Contains nodes m → Contains more m)
    → IsBeyond triples nodes n x → IsBeyond triples more n x
beyond_more triples nodes more n x into b =
    record { node = b.node; there = into b.node b.there; at = b.at; root = b.root }

pub closed_more : (triples : List (List ℤ)) (nodes more : List Node) (n : Node)
    → ((m : Node) → Contains nodes m → Contains more m)
    → IsClosed triples nodes n → IsClosed triples more n
closed_more triples nodes more n into c =
    record { beyond = λ x label at. beyond_more triples nodes more n x into (c.beyond x label at) }

module _ (triples : List (List ℤ)) (glue : Glued triples) (r bound : ℕ) (n : Node) (done : List Node) where
  -- ---- a side whose other triangle is reached

  reached_beyond : (queue : List Node) (x : ℤ) (sides : List ℤ) → IsTurning triples r bound n done queue (x ∷ sides)
      → has_node (done ++ queue) (triangle_of triples (inverse x)) ≡ true → IsBeyond triples (done ++ queue) n x
  reached_beyond queue x sides g h =
      let (m, there, at) = reaching_node (done ++ queue) (triangle_of triples (inverse x)) h in
      record { node = m; there = there; at = at; root = same_root m at (Contains-append_cases done queue m there) }
    where
      side : IsLabel triples x × (triangle_of triples x ≡ n.triangle)
      side = g.left x (member_here x sides)

      -- back across x there is n
      back : (m : Node) → IsBeyond triples (done ++ queue) m (inverse x) → m.root ≡ n.root
      back m b =
          sym b.root
          ∙ ap (λ (k : Node). k.root)
          (g.forest.one b.node n b.there (Contains-append_left done queue n g.here)
          (b.at ∙ ap (triangle_of triples) (glue.known.labels.twice x) ∙ side.1))

      same_root : (m : Node) → m.triangle ≡ triangle_of triples (inverse x) → Contains done m ⊎ Contains queue m
          → m.root ≡ n.root
      same_root m at (inr waits) = g.waiting m waits ∙ sym g.mine
      same_root m at (inl had) =
          elim (g.closed m had) [
            | inl same ↦ ap (λ (k : Node). k.root) same
            | inr c ↦ back m (c.beyond (inverse x) (glue.known.labels.label triples x side.0) (sym at))
          ]

  pub turn_past : (queue : List Node) (x : ℤ) (sides : List ℤ) → IsTurning triples r bound n done queue (x ∷ sides)
      → has_node (done ++ queue) (triangle_of triples (inverse x)) ≡ true → IsTurning triples r bound n done queue sides
  turn_past queue x sides g h = record {
    forest = g.forest;
    here = g.here;
    mine = g.mine;
    closed = g.closed;
    tried = λ y label at. go y (g.tried y label at);
    left = λ y k. g.left y (member_later x sides y k);
    waiting = g.waiting;
    below = g.below;
    root = g.root;
    few = g.few;
  }
    where
      go : (y : ℤ) → Contains (x ∷ sides) y ⊎ IsBeyond triples (done ++ queue) n y
          → Contains sides y ⊎ IsBeyond triples (done ++ queue) n y
      go y (inr b) = inr b
      go y (inl k) =
          elim (member_cases x sides y k) [
            | inl e ↦ inr (subst (IsBeyond triples (done ++ queue) n) e (reached_beyond queue x sides g h))
            | inr later ↦ inl later
          ]
