-- A forest stays one with a node beyond a side, where the triangle there is new, and with a new root.
--
-- Each fact about nodes is shown for the old ones, where it held before, and for the new one. The new node's walk is
-- that of the node it stands beyond and one step more. Its triangle is new, so no two nodes are at one triangle. Of
-- the three free labels of a tree, the one that the new step crosses is replaced by a side of the new triangle; a new
-- root brings its three sides, which are different because the side after a side is another one. The root of a tree
-- is its least triangle: a node is added where all triangles below the root are reached already.
use Rattle.std.proofs.Common.{ℕ, ℤ, false, List, [], ◌∷◌, ◌++◌, ◌≡◌, ◌<◌, ◌≤◌, ◌⊎◌, inl, inr, refl, sym, ◌∙◌, ap, subst}
use Rattle.std.proofs.Common.{arith, length}
use Rattle.std.specs.List.{Contains}
use Rattle.std.proofs.lemmas.List.Elements.{Contains-append_left, Contains-push, Contains-push_cases}
use Rattle.ideal_tri.specs.Labels.{inverse, edge_of}
use Rattle.ideal_tri.specs.Triangulations.{IsLabel, IsWalk, triangle_of, next, previous}
use Rattle.free_groupoid.specs.TestWalks.{Node, root_node, node_beyond, has_node}
use Rattle.free_groupoid.proofs.Known.{Glued}
use Rattle.free_groupoid.proofs.Sides.{SideOf}
use Rattle.free_groupoid.proofs.Nodes.{not_reached, still_uncrossed}
use Rattle.free_groupoid.proofs.Members.{no_member}
use Rattle.free_groupoid.proofs.Forests.{StandsBeyond, IsFree, AreFree, IsForest, uncrossed}
use Rattle.free_groupoid.proofs.Sprouts.{IsOpen, sprouted, still_three}

-- what holds of each node and of one more
each_node : (P : Node → Type 0) (nodes : List Node) (new : Node) → ((m : Node) → Contains nodes m → P m) → P new
    → (m : Node) → Contains (nodes ++ (new ∷ [])) m → P m
each_node P nodes new old here m h =
    elim (Contains-push_cases nodes new m h) [
      | inl before ↦ old m before
      | inr e ↦ subst P e here
    ]

-- no two nodes at one triangle, where the triangle of one more is new
still_one : (nodes : List Node) (new : Node)
    → ((m n : Node) → Contains nodes m → Contains nodes n → m.triangle ≡ n.triangle → m ≡ n)
    → has_node nodes new.triangle ≡ false
    → (m n : Node) → Contains (nodes ++ (new ∷ [])) m → Contains (nodes ++ (new ∷ [])) n → m.triangle ≡ n.triangle
    → m ≡ n
still_one nodes new one none m n h k =
    each_node (λ m. (n : Node) → Contains (nodes ++ (new ∷ [])) n → m.triangle ≡ n.triangle → m ≡ n) nodes new
    (λ m h. each_node (λ n. m.triangle ≡ n.triangle → m ≡ n) nodes new (λ n k. one m n h k)
    (λ e. absurd (not_reached nodes m new.triangle none h e)))
    (each_node (λ n. new.triangle ≡ n.triangle → new ≡ n) nodes new
    (λ n k e. absurd (not_reached nodes n new.triangle none k (sym e))) (λ e. refl))
    m h n k

still_comes : (triples : List (List ℤ)) (nodes : List Node) (new n : Node)
    → (n ≡ root_node n.triangle) ⊎ StandsBeyond triples nodes n
    → (n ≡ root_node n.triangle) ⊎ StandsBeyond triples (nodes ++ (new ∷ [])) n
still_comes triples nodes new n (inl root) = inl root
still_comes triples nodes new n (inr b) =
    inr (record {
      from = b.from;
      there = Contains-append_left nodes (new ∷ []) b.from b.there;
      side = b.side;
      label = b.label;
      at = b.at;
      is = b.is;
    })

module _ (triples : List (List ℤ)) (glue : Glued triples) (nodes : List Node) (f : IsForest triples nodes) where
  -- ---- a node beyond a side

  pub sprouted_forest : (n : Node) (x : ℤ) → IsOpen triples nodes n x → n.root ≤ triangle_of triples (inverse x)
      → IsForest triples (sprouted triples nodes n x)
  sprouted_forest n x o below = record {
    inside =
        each_node (λ m. m.triangle < length triples) nodes new f.inside
        (glue.triangles.triangle (inverse x) (glue.known.labels.label triples x o.label));
    walk =
        each_node (λ m. IsWalk triples m.root m.walk m.triangle) nodes new f.walk
        (glue.walks.join n.root n.triangle (triangle_of triples (inverse x)) n.walk (x ∷ []) (f.walk n o.there)
        (o.label, o.at, refl));
    least = each_node (λ m. m.root ≤ m.triangle) nodes new f.least below;
    one = still_one nodes new f.one o.new;
    comes =
        each_node (λ m. (m ≡ root_node m.triangle) ⊎ StandsBeyond triples (sprouted triples nodes n x) m) nodes new
        (λ m h. still_comes triples nodes new m (f.comes m h))
        (inr (record {
          from = n;
          there = Contains-append_left nodes (new ∷ []) n o.there;
          side = x;
          label = o.label;
          at = o.at;
          is = refl;
        }));
    three =
        each_node (λ m. AreFree triples (sprouted triples nodes n x) m.root) nodes new
        (λ m h. still_three triples glue nodes f n x o m.root (f.three m h))
        (still_three triples glue nodes f n x o n.root (f.three n o.there));
  }
    where
      new : Node
      new = node_beyond triples n x

  -- ---- a root

  module _ (r : ℕ) (below : r < length triples) (new : has_node nodes r ≡ false) (s : SideOf triples r) where
    abbrev with_root : List Node
    with_root = nodes ++ (root_node r ∷ [])

    root_stays_free : (i : ℕ) (a : ℤ) → IsFree triples nodes i a → IsFree triples with_root i a
    root_stays_free i a h = record {
      label = h.label;
      node = h.node;
      there = Contains-append_left nodes (root_node r ∷ []) h.node h.there;
      at = h.at;
      root = h.root;
      free = still_uncrossed nodes (root_node r) (edge_of a) h.free refl;
    }

    root_stays_three : (i : ℕ) → AreFree triples nodes i → AreFree triples with_root i
    root_stays_three i h = record {
      a = h.a;
      b = h.b;
      c = h.c;
      free_a = root_stays_free i h.a h.free_a;
      free_b = root_stays_free i h.b h.free_b;
      free_c = root_stays_free i h.c h.free_c;
      a_b = h.a_b;
      a_c = h.a_c;
      b_c = h.b_c;
    }

    side_free : (a : ℤ) → IsLabel triples a → triangle_of triples a ≡ r → IsFree triples with_root r a
    side_free a label at = record {
      label = label;
      node = root_node r;
      there = Contains-push nodes (root_node r);
      at = sym at;
      root = refl;
      free =
          still_uncrossed nodes (root_node r) (edge_of a)
          (uncrossed triples glue nodes a f (ap (has_node nodes) at ∙ new)) refl;
    }

    -- the three sides of the root
    sides_free : AreFree triples with_root r
    sides_free =
        let second : IsLabel triples (next triples s.side) = glue.triangles.label s.side s.label in
        let third : IsLabel triples (previous triples s.side) = glue.triangles.label (next triples s.side) second in
        let at_second : triangle_of triples (next triples s.side) ≡ r = glue.triangles.stays s.side s.label ∙ s.at in
        record {
          a = s.side;
          b = next triples s.side;
          c = previous triples s.side;
          free_a = side_free s.side s.label s.at;
          free_b = side_free (next triples s.side) second at_second;
          free_c =
              side_free (previous triples s.side) third (glue.triangles.stays (next triples s.side) second ∙ at_second);
          a_b = λ e. (glue.triangles.moves s.side s.label).0 (sym e);
          a_c = λ e. (glue.triangles.moves s.side s.label).1 (sym e);
          b_c = λ e. (glue.triangles.moves (next triples s.side) second).0 (sym e);
        }

    pub planted_forest : IsForest triples with_root
    planted_forest = record {
      inside = each_node (λ m. m.triangle < length triples) nodes (root_node r) f.inside below;
      walk = each_node (λ m. IsWalk triples m.root m.walk m.triangle) nodes (root_node r) f.walk refl;
      least = each_node (λ m. m.root ≤ m.triangle) nodes (root_node r) f.least (omega arith);
      one = still_one nodes (root_node r) f.one new;
      comes =
          each_node (λ m. (m ≡ root_node m.triangle) ⊎ StandsBeyond triples with_root m) nodes (root_node r)
          (λ m h. still_comes triples nodes (root_node r) m (f.comes m h)) (inl refl);
      three =
          each_node (λ m. AreFree triples with_root m.root) nodes (root_node r)
          (λ m h. root_stays_three m.root (f.three m h)) sides_free;
    }

-- no node yet
pub no_nodes : (triples : List (List ℤ)) → IsForest triples []
no_nodes triples = record {
  inside = λ n h. absurd (no_member n h);
  walk = λ n h. absurd (no_member n h);
  least = λ n h. absurd (no_member n h);
  one = λ m n h k e. absurd (no_member m h);
  comes = λ n h. absurd (no_member n h);
  three = λ n h. absurd (no_member n h);
}
