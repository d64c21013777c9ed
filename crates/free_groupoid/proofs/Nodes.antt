-- Nodes: which triangles they reach, how many triangles they miss, and which edges their walks end across.
--
-- To be reached, and to be crossed, are tests over a list of nodes; one more node changes them at its own triangle,
-- and at the edge of the last step of its walk. The number of triangles below k that no node reaches is a sum over k:
-- with one more node no term rises, and that of a new triangle falls from one to zero. So the number falls by one at
-- least, which bounds how often a tree may grow.
use Rattle.std.proofs.Common.{ℕ, ℤ, zero, suc, Bool, true, false, List, [], ◌∷◌, ◌++◌, ◌≡◌, ◌≢◌, ◌<◌, ◌≤◌, ◌+◌, ◌||◌}
use Rattle.std.proofs.Common.{inl, inr, refl, ◌∙◌, ap, arith, cond, nat_eq}
use Rattle.std.specs.List.{Contains, list_any}
use Rattle.std.proofs.lemmas.Bool.{or_left, or_right, or_from, cases_eq, eq-eqb, eqb-true, cond-true, cond-false}
use Rattle.std.proofs.lemmas.Bool.{both_ways}
use Rattle.std.proofs.lemmas.List.Folds.{list_any-append}
use Rattle.ideal_tri.specs.Labels.{edge_of}
use Rattle.ideal_tri.specs.Words.{last_of}
use Rattle.free_groupoid.specs.TestWalks.{Node, has_node, ends_across}
use Rattle.free_groupoid.proofs.Members.{any_member, member_any}

-- ---- reached triangles

pub node_reaches : (nodes : List Node) (n : Node) (t : ℕ) → Contains nodes n → n.triangle ≡ t → has_node nodes t ≡ true
node_reaches nodes n t h e = member_any (λ m. nat_eq m.triangle t) nodes n h (eq-eqb n.triangle t e)

pub reaching_node : (nodes : List Node) (t : ℕ) → has_node nodes t ≡ true
    → (n : Node) × Contains nodes n × (n.triangle ≡ t)
reaching_node nodes t h =
    let (n, in_nodes, e) = any_member (λ m. nat_eq m.triangle t) nodes h in
    (n, in_nodes, eqb-true n.triangle t e)

pub not_reached : (nodes : List Node) (n : Node) (t : ℕ) → has_node nodes t ≡ false → Contains nodes n → n.triangle ≢ t
not_reached nodes n t none h e = both_ways (has_node nodes t) none (node_reaches nodes n t h e)

-- ---- one more node

any_push : {X : Type 0} → (p : X → Bool) (xs : List X) (x : X)
    → list_any p (xs ++ (x ∷ [])) ≡ (list_any p xs || (p x || false))
any_push p xs x = list_any-append p xs (x ∷ [])

pub still_reached : (nodes : List Node) (n : Node) (t : ℕ) → has_node nodes t ≡ true
    → has_node (nodes ++ (n ∷ [])) t ≡ true
still_reached nodes n t h =
    any_push (λ m. nat_eq m.triangle t) nodes n ∙ or_left (has_node nodes t) (nat_eq n.triangle t || false) h

pub now_reached : (nodes : List Node) (n : Node) → has_node (nodes ++ (n ∷ [])) n.triangle ≡ true
now_reached nodes n =
    any_push (λ m. nat_eq m.triangle n.triangle) nodes n
    ∙ or_right (has_node nodes n.triangle) (nat_eq n.triangle n.triangle || false)
    (or_left (nat_eq n.triangle n.triangle) false (eq-eqb n.triangle n.triangle refl))

-- ---- missing triangles

-- how many of the triangles below k no node reaches
abbrev pub missing : ℕ → List Node → ℕ
missing zero nodes = 0
missing (suc k) nodes = missing k nodes + cond (has_node nodes k) 0 1

-- one more node misses no triangle that was reached
fewer_at : (k : ℕ) (nodes : List Node) (n : Node)
    → cond (has_node (nodes ++ (n ∷ [])) k) 0 1 ≤ cond (has_node nodes k) 0 1
fewer_at k nodes n = go (has_node nodes k) (has_node (nodes ++ (n ∷ [])) k) (still_reached nodes n k)
  where
    go : (before after : Bool) → (before ≡ true → after ≡ true) → cond after 0 1 ≤ cond before 0 1
    go true after h = let now : ◌≡◌ {A = ℕ} (cond after 0 1) 0 = cond-true after 0 1 (h refl) in omega arith
    go false true h = omega arith
    go false false h = omega arith

missing-more : (k : ℕ) (nodes : List Node) (n : Node) → missing k (nodes ++ (n ∷ [])) ≤ missing k nodes
missing-more zero nodes n = omega arith
missing-more (suc k) nodes n = omega (arith, fewer_at k nodes n, missing-more k nodes n)

-- a node at a new triangle leaves one fewer
pub missing-new : (k : ℕ) (nodes : List Node) (n : Node) → n.triangle < k → has_node nodes n.triangle ≡ false
    → missing k (nodes ++ (n ∷ [])) + 1 ≤ missing k nodes
missing-new zero nodes n below new = absurd (omega arith)
missing-new (suc k) nodes n below new =
    elim (cases_eq k n.triangle) [
      | inl e ↦
          (let was : ◌≡◌ {A = ℕ} (cond (has_node nodes k) 0 1) 1 = cond-false (has_node nodes k) 0 1
          (ap (has_node nodes) e ∙ new) in
          let now : ◌≡◌ {A = ℕ} (cond (has_node (nodes ++ (n ∷ [])) k) 0 1) 0 =
          cond-true (has_node (nodes ++ (n ∷ [])) k) 0 1 (ap (has_node (nodes ++ (n ∷ []))) e ∙ now_reached nodes n) in
          omega (arith, was, now, missing-more k nodes n))
      | inr ne ↦ omega (arith, fewer_at k nodes n, missing-new k nodes n (omega arith) new)
    ]

pub missing-le : (k : ℕ) (nodes : List Node) → missing k nodes ≤ k
missing-le zero nodes = omega arith
missing-le (suc k) nodes = omega (arith, at_most (has_node nodes k), missing-le k nodes)
  where
    at_most : (b : Bool) → cond b 0 1 ≤ 1
    at_most true = omega arith
    at_most false = omega arith

-- ---- tree edges

-- a walk of some node ends across the edge
abbrev pub is_crossed : List Node → ℕ → Bool
is_crossed nodes e = list_any (λ n. ends_across e n.walk) nodes

pub crossed_by : (nodes : List Node) (n : Node) (e : ℕ) → Contains nodes n → ends_across e n.walk ≡ true
    → is_crossed nodes e ≡ true
crossed_by nodes n e h ends = member_any (λ m. ends_across e m.walk) nodes n h ends

pub crossing_node : (nodes : List Node) (e : ℕ) → is_crossed nodes e ≡ true
    → (n : Node) × Contains nodes n × (ends_across e n.walk ≡ true)
crossing_node nodes e h = any_member (λ m. ends_across e m.walk) nodes h

pub still_uncrossed : (nodes : List Node) (n : Node) (e : ℕ) → is_crossed nodes e ≡ false → ends_across e n.walk ≡ false
    → is_crossed (nodes ++ (n ∷ [])) e ≡ false
still_uncrossed nodes n e before last =
    any_push (λ m. ends_across e m.walk) nodes n ∙ or_from (is_crossed nodes e) (ends_across e n.walk || false) before
    (or_from (ends_across e n.walk) false last refl)

-- a walk with one more letter ends across the edge of that letter
pub ends_across-push : (e : ℕ) (w : List ℤ) (x : ℤ) → ends_across e (w ++ (x ∷ [])) ≡ nat_eq (edge_of x) e
ends_across-push e [] x = refl
ends_across-push e (y ∷ w) x = ap (λ (z : ℤ). nat_eq (edge_of z) e) (last y w)
  where
    last : (y : ℤ) (w : List ℤ) → last_of y (w ++ (x ∷ [])) ≡ x
    last y [] = refl
    last y (z ∷ w) = last z w
