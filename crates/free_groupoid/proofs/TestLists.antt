-- The list of test walks: what it holds, and what holds of all of it.
--
-- The list has a walk for each outer edge, and one for each two of one component, the earlier of the list first. So
-- what holds of the walk of each outer edge, and of each two with the same root, holds of all. Conversely the walk of
-- an outer edge is in the list; and of two different ones with the same root one comes before the other, so their
-- product is in the list in one of the two orders. Both are inductions on the list of edges.
use Rattle.std.proofs.Common.{ℕ, ℤ, pos, List, [], ◌∷◌, ◌++◌, ◌≡◌, ◌≢◌, ◌⊎◌, inl, inr, sym, ◌∙◌, ap, subst, map, nat_eq}
use Rattle.std.specs.List.{All, Contains}
use Rattle.std.proofs.lemmas.Bool.{eq-eqb, eqb-true}
use Rattle.std.proofs.lemmas.List.Elements.{All-nil, All-append, All-map, All-weaker, All-contains_itself}
use Rattle.std.proofs.lemmas.List.Elements.{Contains-append_left, Contains-append_right}
use Rattle.ideal_tri.specs.Words.{cyclic_reduce}
use Rattle.free_groupoid.specs.TestWalks.{loop, outer_edges, root_of_edge, edges_at, products, test_walks}
use Rattle.free_groupoid.proofs.Members.{member_here, member_later, member_cases, no_member, member_filter}
use Rattle.free_groupoid.proofs.Members.{filter_member}

-- what holds of each value of a function at members of a list
each_image : {X Y : Type 0} → (P : Y → Type 0) (f : X → Y) (xs : List X) → ((x : X) → Contains xs x → P (f x))
    → All P (map f xs)
each_image P f xs h = All-map P f xs (All-weaker (Contains xs) (λ x. P (f x)) h xs (All-contains_itself xs))

member_map : {X Y : Type 0} → (f : X → Y) (xs : List X) (x : X) → Contains xs x → Contains (map f xs) (f x)
member_map f [] x h = absurd (no_member x h)
member_map f (y ∷ xs) x h =
    elim (member_cases y xs x h) [
      | inl e ↦ subst (λ v. Contains (f y ∷ map f xs) (f v)) e (member_here (f y) (map f xs))
      | inr later ↦ member_later (f y) (map f xs) (f x) (member_map f xs x later)
    ]

module _ (triples : List (List ℤ)) where
  -- the cyclically reduced loop of an edge, and product of the loops of two
  abbrev pub loop_walk : ℕ → List ℤ
  loop_walk e = cyclic_reduce (loop triples (pos e))

  abbrev pub product_walk : ℕ → ℕ → List ℤ
  product_walk i j = cyclic_reduce (loop triples (pos i) ++ loop triples (pos j))

  -- ---- what holds of all

  each_product : (P : List ℤ → Type 0) (edges : List ℕ)
      → ((i j : ℕ) → Contains edges i → Contains edges j → root_of_edge triples j ≡ root_of_edge triples i → P
      (product_walk i j))
      → All P (products triples edges)
  each_product P [] h = All-nil P
  each_product P (i ∷ edges) h =
      All-append P (map (product_walk i) (edges_at triples (root_of_edge triples i) edges)) (products triples edges)
      (each_image P (product_walk i) (edges_at triples (root_of_edge triples i) edges)
      (λ j k. let kept = filter_member (λ e. nat_eq (root_of_edge triples e) (root_of_edge triples i)) edges j k in
      h i j (member_here i edges) (member_later i edges j kept.0)
      (eqb-true (root_of_edge triples j) (root_of_edge triples i) kept.1)))
      (each_product P edges (λ a b k m e. h a b (member_later i edges a k) (member_later i edges b m) e))

  pub each_test : (P : List ℤ → Type 0) → ((e : ℕ) → Contains (outer_edges triples) e → P (loop_walk e))
      → ((i j : ℕ) → Contains (outer_edges triples) i → Contains (outer_edges triples) j → root_of_edge triples j
      ≡ root_of_edge triples i
      → P (product_walk i j))
      → All P (test_walks triples)
  unfolding test_walks
  each_test P h k =
      All-append P (map loop_walk (outer_edges triples)) (products triples (outer_edges triples))
      (each_image P loop_walk (outer_edges triples) h) (each_product P (outer_edges triples) k)

  -- ---- what it holds

  pub loop_tested : (e : ℕ) → Contains (outer_edges triples) e → Contains (test_walks triples) (loop_walk e)
  unfolding test_walks
  loop_tested e h =
      Contains-append_left (map loop_walk (outer_edges triples)) (products triples (outer_edges triples)) (loop_walk e)
      (member_map loop_walk (outer_edges triples) e h)

  -- the product of two different edges, in the one order or in the other
  abbrev pub OneProduct : List (List ℤ) → ℕ → ℕ → Type 0
  OneProduct walks i j = Contains walks (product_walk i j) ⊎ Contains walks (product_walk j i)

  first_product : (i : ℕ) (edges : List ℕ) (j : ℕ) → Contains edges j → root_of_edge triples j ≡ root_of_edge triples i
      → Contains (products triples (i ∷ edges)) (product_walk i j)
  first_product i edges j h e =
      Contains-append_left (map (product_walk i) (edges_at triples (root_of_edge triples i) edges))
      (products triples edges) (product_walk i j)
      (member_map (product_walk i) (edges_at triples (root_of_edge triples i) edges) j
      (member_filter (λ a. nat_eq (root_of_edge triples a) (root_of_edge triples i)) edges j h
      (eq-eqb (root_of_edge triples j) (root_of_edge triples i) e)))

  later_product : (a : ℕ) (edges : List ℕ) (v : List ℤ) → Contains (products triples edges) v
      → Contains (products triples (a ∷ edges)) v
  later_product a edges v h =
      Contains-append_right (map (product_walk a) (edges_at triples (root_of_edge triples a) edges))
      (products triples edges) v h

  product_listed : (edges : List ℕ) (i j : ℕ) → i ≢ j → root_of_edge triples i ≡ root_of_edge triples j
      → Contains edges i → Contains edges j
      → OneProduct (products triples edges) i j
  product_listed [] i j ne e h k = absurd (no_member i h)
  product_listed (a ∷ edges) i j ne e h k =
      go (product_listed edges i j ne e) (member_cases a edges i h) (member_cases a edges j k)
    where
      go : (Contains edges i → Contains edges j → OneProduct (products triples edges) i j)
          → (a ≡ i) ⊎ Contains edges i → (a ≡ j) ⊎ Contains edges j → OneProduct (products triples (a ∷ edges)) i j
      go rest (inl at_i) (inl at_j) = absurd (ne (sym at_i ∙ at_j))
      go rest (inl at_i) (inr k) =
          inl (subst (λ (z : ℕ). Contains (products triples (a ∷ edges)) (product_walk z j)) at_i
          (first_product a edges j k (sym e ∙ ap (root_of_edge triples) (sym at_i))))
      go rest (inr h) (inl at_j) =
          inr (subst (λ (z : ℕ). Contains (products triples (a ∷ edges)) (product_walk z i)) at_j
          (first_product a edges i h (e ∙ ap (root_of_edge triples) (sym at_j))))
      go rest (inr h) (inr k) =
          elim (rest h k) [
            | inl there ↦ inl (later_product a edges (product_walk i j) there)
            | inr there ↦ inr (later_product a edges (product_walk j i) there)
          ]

  pub product_tested : (i j : ℕ) → i ≢ j → root_of_edge triples i ≡ root_of_edge triples j
      → Contains (outer_edges triples) i
      → Contains (outer_edges triples) j → OneProduct (test_walks triples) i j
  unfolding test_walks
  product_tested i j ne e h k =
      elim (product_listed (outer_edges triples) i j ne e h k) [
        | inl there ↦
            inl (Contains-append_right (map loop_walk (outer_edges triples)) (products triples (outer_edges triples))
            (product_walk i j) there)
        | inr there ↦
            inr (Contains-append_right (map loop_walk (outer_edges triples)) (products triples (outer_edges triples))
            (product_walk j i) there)
      ]
