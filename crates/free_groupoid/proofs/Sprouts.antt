-- A forest with a node added beyond a side x, where the triangle there is new: three labels of each tree are still
-- free.
--
-- The new step crosses x and its inverse. A free label but x stays free: it is not the inverse of x, since its
-- triangle is reached and the new one wasn't. The side after the inverse of x is free: no edge of a new triangle is
-- crossed, and it is not an edge of the new step. If x itself was free, that side takes its place; its triangle is
-- new, so it is none of the other free labels. A label that was free in a tree is x only where the new node is of
-- that tree.
use Rattle.std.proofs.Common.{ℕ, ℤ, false, List, [], ◌∷◌, ◌++◌, ◌≡◌, ◌≢◌, ◌⊎◌, inl, inr, refl, sym, ◌∙◌, ap, subst}
use Rattle.std.specs.List.{Contains}
use Rattle.std.proofs.lemmas.Bool.{ne_eqb}
use Rattle.std.proofs.lemmas.List.Elements.{Contains-append_left, Contains-push}
use Rattle.ideal_tri.specs.Labels.{inverse, edge_of}
use Rattle.ideal_tri.specs.Triangulations.{IsLabel, triangle_of, next}
use Rattle.free_groupoid.specs.TestWalks.{Node, node_beyond, has_node}
use Rattle.free_groupoid.proofs.Known.{Glued}
use Rattle.free_groupoid.proofs.Nodes.{not_reached, still_uncrossed, ends_across-push}
use Rattle.free_groupoid.proofs.Forests.{IsFree, AreFree, IsForest, uncrossed, free_reached}

-- a node of the forest, and a side of its triangle with a new triangle beyond
pub record IsOpen (triples : List (List ℤ)) (nodes : List Node) (n : Node) (x : ℤ) : Type 0 where
  pub there : Contains nodes n
  pub label : IsLabel triples x
  pub at : triangle_of triples x ≡ n.triangle
  pub new : has_node nodes (triangle_of triples (inverse x)) ≡ false

abbrev pub sprouted : List (List ℤ) → List Node → Node → ℤ → List Node
sprouted triples nodes n x = nodes ++ (node_beyond triples n x ∷ [])

module _ (triples : List (List ℤ)) (glue : Glued triples) (nodes : List Node) (f : IsForest triples nodes) (n : Node)
    (x : ℤ)
    (open_side : IsOpen triples nodes n x) where
  -- the side after x inverse
  abbrev fresh : ℤ
  fresh = next triples (inverse x)

  fresh_at : triangle_of triples fresh ≡ triangle_of triples (inverse x)
  fresh_at = glue.triangles.stays (inverse x) (glue.known.labels.label triples x open_side.label)

  -- ---- free labels

  -- a label but x stays free
  stays_free : (r : ℕ) (a : ℤ) → IsFree triples nodes r a → a ≢ x → IsFree triples (sprouted triples nodes n x) r a
  stays_free r a h ne = record {
    label = h.label;
    node = h.node;
    there = Contains-append_left nodes (node_beyond triples n x ∷ []) h.node h.there;
    at = h.at;
    root = h.root;
    free =
        still_uncrossed nodes (node_beyond triples n x) (edge_of a) h.free
        (ends_across-push (edge_of a) n.walk x ∙ ne_eqb (edge_of x) (edge_of a) other_edge);
  }
    where
      other_edge : edge_of x ≢ edge_of a
      other_edge e =
          elim (glue.known.labels.of_edge x a e) [
            | inl same ↦ ne (sym same)
            | inr turned ↦
                free_reached triples nodes r a (inverse x) h open_side.new
                (ap (triangle_of triples) (sym (glue.known.labels.twice a) ∙ ap inverse (sym turned)))
          ]

  -- the side after x inverse is free
  fresh_free : IsFree triples (sprouted triples nodes n x) n.root fresh
  fresh_free = record {
    label = glue.triangles.label (inverse x) (glue.known.labels.label triples x open_side.label);
    node = node_beyond triples n x;
    there = Contains-push nodes (node_beyond triples n x);
    at = sym fresh_at;
    root = refl;
    free =
        still_uncrossed nodes (node_beyond triples n x) (edge_of fresh)
        (uncrossed triples glue nodes fresh f (ap (has_node nodes) fresh_at ∙ open_side.new))
        (ends_across-push (edge_of fresh) n.walk x ∙ ne_eqb (edge_of x) (edge_of fresh) other_edge);
  }
    where
      other_edge : edge_of x ≢ edge_of fresh
      other_edge e =
          elim (glue.known.labels.of_edge fresh x (sym e)) [
            | inl same ↦
                not_reached nodes n (triangle_of triples (inverse x)) open_side.new open_side.there
                (sym open_side.at ∙ ap (triangle_of triples) (sym same) ∙ fresh_at)
            | inr turned ↦
                (glue.triangles.moves (inverse x) (glue.known.labels.label triples x open_side.label)).0 turned
          ]

  -- a free label, or the one in its place where it was x
  record Replaced (r : ℕ) (a : ℤ) : Type 0 where
    label : ℤ
    free : IsFree triples (sprouted triples nodes n x) r label
    how : (label ≡ a) ⊎ ((label ≡ fresh) × (a ≡ x))

  replace : (r : ℕ) (a : ℤ) → IsFree triples nodes r a → Replaced r a
  replace r a h =
      elim (glue.known.labels.same_or_not a x) [
        | inr ne ↦ record { label = a; free = stays_free r a h ne; how = inl refl }
        | inl e ↦
            (let same : h.node ≡ n = f.one h.node n h.there open_side.there
            (h.at ∙ ap (triangle_of triples) e ∙ open_side.at) in
            record {
              label = fresh;
              free =
                  subst (λ (i : ℕ). IsFree triples (sprouted triples nodes n x) i fresh)
                  (ap (λ (m : Node). m.root) (sym same) ∙ h.root) fresh_free;
              how = inr (refl, e);
            })
      ]

  fresh_other : (r : ℕ) (a : ℤ) → IsFree triples nodes r a → a ≢ fresh
  fresh_other r a h e =
      free_reached triples nodes r a (inverse x) h open_side.new (ap (triangle_of triples) e ∙ fresh_at)

  apart : (r : ℕ) (a b : ℤ) → IsFree triples nodes r a → IsFree triples nodes r b → a ≢ b
      → (p : Replaced r a) (q : Replaced r b) → p.label ≢ q.label
  apart r a b h k ne p q e = go p.how q.how
    where
      go : (p.label ≡ a) ⊎ ((p.label ≡ fresh) × (a ≡ x)) → (q.label ≡ b) ⊎ ((q.label ≡ fresh) × (b ≡ x)) → ⊥
      go (inl i) (inl j) = ne (sym i ∙ e ∙ j)
      go (inl i) (inr j) = fresh_other r a h (sym i ∙ e ∙ j.0)
      go (inr i) (inl j) = fresh_other r b k (sym j ∙ sym e ∙ i.0)
      go (inr i) (inr j) = ne (i.1 ∙ sym j.1)

  pub still_three : (r : ℕ) → AreFree triples nodes r → AreFree triples (sprouted triples nodes n x) r
  still_three r h = record {
    a = (replace r h.a h.free_a).label;
    b = (replace r h.b h.free_b).label;
    c = (replace r h.c h.free_c).label;
    free_a = (replace r h.a h.free_a).free;
    free_b = (replace r h.b h.free_b).free;
    free_c = (replace r h.c h.free_c).free;
    a_b = apart r h.a h.b h.free_a h.free_b h.a_b (replace r h.a h.free_a) (replace r h.b h.free_b);
    a_c = apart r h.a h.c h.free_a h.free_c h.a_c (replace r h.a h.free_a) (replace r h.c h.free_c);
    b_c = apart r h.b h.c h.free_b h.free_c h.b_c (replace r h.b h.free_b) (replace r h.c h.free_c);
  }
