-- Nodes that make a forest: each is a root or stands beyond a side of another, and no two are at one triangle.
--
-- Beside that, each tree has three labels at its triangles that it doesn't cross. They are the three sides of the
-- root at first. Where a node is added beyond a side x, the tree crosses x and its inverse from then on; x is
-- replaced by the side after its inverse, which is new. So at the end two edges at least of each component lie
-- outside the forest: three labels are of two edges.
use Rattle.std.proofs.Common.{ℕ, ℤ, true, false, List, ◌≡◌, ◌≢◌, ◌<◌, ◌≤◌, ◌⊎◌, inl, inr, sym, ◌∙◌, ap, length, nat_eq}
use Rattle.std.specs.List.{Contains}
use Rattle.std.proofs.lemmas.Bool.{eqb-true, false_from_ne_true, false≢true, both_ways}
use Rattle.ideal_tri.specs.Labels.{edge_of}
use Rattle.ideal_tri.specs.Triangulations.{IsLabel, IsWalk, triangle_of}
use Rattle.free_groupoid.specs.TestWalks.{Node, root_node, node_beyond, has_node, ends_across}
use Rattle.free_groupoid.proofs.Known.{Glued}
use Rattle.free_groupoid.proofs.Nodes.{node_reaches, not_reached, is_crossed, crossing_node, ends_across-push}

-- ---- what holds of the nodes

-- the node stands beyond the side x of the triangle of another
pub record StandsBeyond (triples : List (List ℤ)) (nodes : List Node) (n : Node) : Type 0 where
  pub from : Node
  pub there : Contains nodes from
  pub side : ℤ
  pub label : IsLabel triples side
  pub at : triangle_of triples side ≡ from.triangle
  pub is : n ≡ node_beyond triples from side

-- a label at a triangle of the tree with this root, which no tree crosses
pub record IsFree (triples : List (List ℤ)) (nodes : List Node) (r : ℕ) (x : ℤ) : Type 0 where
  pub label : IsLabel triples x
  pub node : Node
  pub there : Contains nodes node
  pub at : node.triangle ≡ triangle_of triples x
  pub root : node.root ≡ r
  pub free : is_crossed nodes (edge_of x) ≡ false

-- three of them
pub record AreFree (triples : List (List ℤ)) (nodes : List Node) (r : ℕ) : Type 0 where
  pub a : ℤ
  pub b : ℤ
  pub c : ℤ
  pub free_a : IsFree triples nodes r a
  pub free_b : IsFree triples nodes r b
  pub free_c : IsFree triples nodes r c
  pub a_b : a ≢ b
  pub a_c : a ≢ c
  pub b_c : b ≢ c

pub record IsForest (triples : List (List ℤ)) (nodes : List Node) : Type 0 where
  pub inside : (n : Node) → Contains nodes n → n.triangle < length triples
  pub walk : (n : Node) → Contains nodes n → IsWalk triples n.root n.walk n.triangle
  pub least : (n : Node) → Contains nodes n → n.root ≤ n.triangle
  pub one : (m n : Node) → Contains nodes m → Contains nodes n → m.triangle ≡ n.triangle → m ≡ n
  pub comes : (n : Node) → Contains nodes n → (n ≡ root_node n.triangle) ⊎ StandsBeyond triples nodes n
  pub three : (n : Node) → Contains nodes n → AreFree triples nodes n.root

-- ---- crossed edges

-- the last step of a node starts and ends at reached triangles
last_step : (triples : List (List ℤ)) (glue : Glued triples) (nodes : List Node) (n : Node) (x : ℤ) → Contains nodes n
    → ends_across (edge_of x) n.walk ≡ true
    → (n ≡ root_node n.triangle) ⊎ StandsBeyond triples nodes n → has_node nodes (triangle_of triples x) ≡ true
last_step triples glue nodes n x there ends (inl root) =
    absurd (false≢true (ap (λ (m : Node). ends_across (edge_of x) m.walk) (sym root) ∙ ends))
last_step triples glue nodes n x there ends (inr b) =
    elim (glue.known.labels.of_edge x b.side (sym (eqb-true (edge_of b.side) (edge_of x) across))) [
      | inl e ↦ node_reaches nodes b.from (triangle_of triples x) b.there (sym (ap (triangle_of triples) e ∙ b.at))
      | inr e ↦
          node_reaches nodes n (triangle_of triples x) there
          (ap (λ (m : Node). m.triangle) b.is ∙ ap (triangle_of triples) (sym e))
    ]
  where
    across : nat_eq (edge_of b.side) (edge_of x) ≡ true
    across =
        sym (ends_across-push (edge_of x) b.from.walk b.side)
        ∙ ap (λ (m : Node). ends_across (edge_of x) m.walk) (sym b.is)
        ∙ ends

-- no edge of a new triangle is crossed
pub uncrossed : (triples : List (List ℤ)) (glue : Glued triples) (nodes : List Node) (x : ℤ) → IsForest triples nodes
    → has_node nodes (triangle_of triples x) ≡ false
    → is_crossed nodes (edge_of x) ≡ false
uncrossed triples glue nodes x f new =
    false_from_ne_true (is_crossed nodes (edge_of x))
    (λ h. let (n, there, ends) = crossing_node nodes (edge_of x) h in
    both_ways (has_node nodes (triangle_of triples x)) new
    (last_step triples glue nodes n x there ends (f.comes n there)))

-- the triangle of a free label is reached
pub free_reached : (triples : List (List ℤ)) (nodes : List Node) (r : ℕ) (x y : ℤ) → IsFree triples nodes r x
    → has_node nodes (triangle_of triples y) ≡ false → triangle_of triples x ≢ triangle_of triples y
free_reached triples nodes r x y h new e = not_reached nodes h.node (triangle_of triples y) new h.there (h.at ∙ e)
