-- The edges outside the forest, as a list: which they are, and that they come in increasing order.
use Rattle.std.proofs.Common.{ℕ, ℤ, pos, zero, suc, Bool, List, [], ◌∷◌, ◌≤◌, ◌+◌, inl, inr, refl, sym, ◌∙◌, subst}
use Rattle.std.proofs.Common.{arith, nat_eq, not}
use Rattle.std.specs.List.{Contains, filter, range_with_len}
use Rattle.std.proofs.lemmas.Bool.{cases_Bool, cond-true, cond-false, eq-eqb, eqb-true, not-true, not_from_false}
use Rattle.ideal_tri.specs.Labels.{edge_of}
use Rattle.ideal_tri.specs.Triangulations.{edge_count}
use Rattle.free_groupoid.specs.TestWalks.{is_tree_edge, outer_edges, root_of_edge, edges_at}
use Rattle.free_groupoid.specs.ForestLaws.{ForestLaws}
use Rattle.free_groupoid.proofs.Members.{member_filter, filter_member, member_range, range_member}
use Rattle.free_groupoid.proofs.Collapse.{IsOuter}
use Rattle.free_groupoid.proofs.ForestLaws.{edge_component}

-- ---- which they are

pub edge_outer : (triples : List (List ℤ)) (e : ℕ) → Contains (outer_edges triples) e
    → IsOuter triples (root_of_edge triples e) (pos e)
unfolding outer_edges
edge_outer triples e h =
    let kept = filter_member (λ i. not (is_tree_edge triples i)) (range_with_len 0 (edge_count triples)) e h in
    record {
      label = omega (arith, (range_member 0 (edge_count triples) e kept.0).1);
      outside = not-true (is_tree_edge triples e) kept.1;
      root = refl;
    }

-- those in the component of a root
pub edge_at_outer : (triples : List (List ℤ)) (r e : ℕ) → Contains (edges_at triples r (outer_edges triples)) e
    → IsOuter triples r (pos e)
edge_at_outer triples r e h =
    let kept = filter_member (λ i. nat_eq (root_of_edge triples i) r) (outer_edges triples) e h in
    subst (λ (i : ℕ). IsOuter triples i (pos e)) (eqb-true (root_of_edge triples e) r kept.1)
    (edge_outer triples e kept.0)

pub edge_at_edge : (triples : List (List ℤ)) (r e : ℕ) → Contains (edges_at triples r (outer_edges triples)) e
    → Contains (outer_edges triples) e
edge_at_edge triples r e h = (filter_member (λ i. nat_eq (root_of_edge triples i) r) (outer_edges triples) e h).0

pub outer_edge_at : (triples : List (List ℤ)) → ForestLaws triples → (r : ℕ) (x : ℤ) → IsOuter triples r x
    → Contains (edges_at triples r (outer_edges triples)) (edge_of x)
unfolding outer_edges
outer_edge_at triples f r x h =
    member_filter (λ e. nat_eq (root_of_edge triples e) r) (outer_edges triples) (edge_of x)
    (member_filter (λ e. not (is_tree_edge triples e)) (range_with_len 0 (edge_count triples)) (edge_of x)
    (member_range 0 (edge_count triples) (edge_of x) (omega arith) (omega (arith, h.label)))
    (not_from_false (is_tree_edge triples (edge_of x)) h.outside))
    (eq-eqb (root_of_edge triples (edge_of x)) r (edge_component triples f.component x h.label ∙ h.root))

-- ---- their order

-- the numbers rise, from a on
abbrev pub Rise : ℕ → List ℕ → Type 0
Rise a [] = Unit {0}
Rise a (x ∷ xs) = (a ≤ x) × Rise (suc x) xs

rise_lower : (a b : ℕ) (xs : List ℕ) → a ≤ b → Rise b xs → Rise a xs
rise_lower a b [] h r = tt
rise_lower a b (x ∷ xs) h r = (omega (arith, h, r.0), r.1)

rise_range : (a n : ℕ) → Rise a (range_with_len a n)
rise_range a zero = tt
rise_range a (suc n) =
    (omega arith, rise_lower (suc a) (a + 1) (range_with_len (a + 1) n) (omega arith) (rise_range (a + 1) n))

rise_filter : (p : ℕ → Bool) (a : ℕ) (xs : List ℕ) → Rise a xs → Rise a (filter p xs)
rise_filter p a [] r = tt
rise_filter p a (x ∷ xs) r =
    elim (cases_Bool (p x)) [
      | inl kept ↦
          subst (Rise a) (sym (cond-true (p x) (x ∷ filter p xs) (filter p xs) kept))
          (r.0, rise_filter p (suc x) xs r.1)
      | inr dropped ↦
          subst (Rise a) (sym (cond-false (p x) (x ∷ filter p xs) (filter p xs) dropped))
          (rise_lower a (suc x) (filter p xs) (omega (arith, r.0)) (rise_filter p (suc x) xs r.1))
    ]

pub edges_rise : (triples : List (List ℤ)) (r : ℕ) → Rise 0 (edges_at triples r (outer_edges triples))
unfolding outer_edges
edges_rise triples r =
    rise_filter (λ e. nat_eq (root_of_edge triples e) r) 0 (outer_edges triples)
    (rise_filter (λ e. not (is_tree_edge triples e)) 0 (range_with_len 0 (edge_count triples))
    (rise_range 0 (edge_count triples)))
