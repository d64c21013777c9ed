-- The forest, as it grows in one list: the sides of a triangle tried one after another, the nodes one after another,
-- and the triangles one after another.
use Rattle.std.proofs.Common.{ℕ, zero, suc, ℤ, pos, negsuc, true, false, List, [], ◌∷◌, ◌++◌, ◌≡◌, ◌<◌, ◌≤◌, ◌+◌, ◌-◌}
use Rattle.std.proofs.Common.{inl, inr, refl, sym, ◌∙◌, ap, append_assoc, append-nil, arith, length, take, drop, get_or}
use Rattle.std.proofs.Common.{nat_eq}
use Rattle.std.proofs.lemmas.List.{take-append-drop, take_at, drop_at, take_all, drop_all, drop_more, length-take-le}
use Rattle.std.proofs.lemmas.List.{length_push, get_or_at}
use Rattle.std.specs.List.{flat_map, filter, range_with_len}
use Rattle.std.proofs.lemmas.Bool.{cases_Bool}
use Rattle.ideal_tri.specs.Labels.{inverse, edge_of}
use Rattle.ideal_tri.specs.Words.{last_of}
use Rattle.ideal_tri.specs.Triangulations.{edge_count, triangle_of}
use Rattle.free_groupoid.specs.TestWalks.{Node, has_node, node_beyond, label_order, sides_in_order, sprout, grow, plant}
use Rattle.free_groupoid.specs.TestWalks.{root_node, forest, ends_across}
use Rattle.free_groupoid.specs.inside.Sprouting.{tried, tried_each}

-- ---- sides

module _ (triples : List (List ℤ)) (n : Node) where
  -- to try the sides among these labels is to try each of the labels
  pub sprout_tried : (labels : List ℤ) (done queue : List Node)
      → done ++ sprout triples n (filter (λ x. nat_eq (triangle_of triples x) n.triangle) labels) done queue
      ≡ tried_each triples n labels (done ++ queue)
  sprout_tried [] done queue = refl
  sprout_tried (x ∷ labels) done queue =
      elim (cases_Bool (nat_eq (triangle_of triples x) n.triangle)) [
        | inr other ↦ (rw (other) (sprout_tried labels done queue))
        | inl side ↦
            elim (cases_Bool (has_node (done ++ queue) (triangle_of triples (inverse x)))) [
              | inl reached ↦ (rw (side, reached) (sprout_tried labels done queue))
              | inr new ↦
                  (rw (side, new)
                  (sprout_tried labels done (queue ++ (node_beyond triples n x ∷ []))
                  ∙ ap (tried_each triples n labels) (sym (append_assoc done queue (node_beyond triples n x ∷ [])))))
            ]
      ]

  -- the labels of the edges from e on are still to be tried
  abbrev pub IsTrying : List Node → ℕ → List Node → Type 0
  IsTrying old e nodes =
      tried_each triples n (flat_map (λ i. pos i ∷ (negsuc i ∷ [])) (range_with_len e (edge_count triples - e))) nodes
      ≡ tried_each triples n (label_order triples) old

  pub trying_more : (old nodes between after : List Node) (e : ℕ) (m : Node) (x y : ℤ) → e < edge_count triples
      → IsTrying old e nodes
      → n ≡ m → x ≡ pos e → y ≡ inverse x → between ≡ tried triples m x nodes → after ≡ tried triples m y between
      → IsTrying old (e + 1) after
  trying_more old nodes between after e m x y inside so_far same is_x is_y is_between is_after =
      let left : edge_count triples - e ≡ suc (edge_count triples - (e + 1)) = omega arith in
      rw (is_after, is_between, is_y, is_x, ← same)
      (ap (λ (i : ℕ). tried_each triples n (flat_map (λ i. pos i ∷ (negsuc i ∷ [])) (range_with_len e i)) nodes) (sym
      left) ∙ so_far)

  pub tried_all : (old nodes done queue : List Node) (e : ℕ) (m : Node) → edge_count triples ≤ e
      → IsTrying old e nodes → n ≡ m
      → old ≡ done ++ m ∷ queue
      → nodes ≡ (done ++ m ∷ []) ++ sprout triples m (sides_in_order triples m.triangle) (done ++ m ∷ []) queue
  tried_all old nodes done queue e m all so_far same is_old =
      let none : edge_count triples - e ≡ 0 = omega arith in
      rw (← same)
      (ap (λ (i : ℕ). tried_each triples n (flat_map (λ i. pos i ∷ (negsuc i ∷ [])) (range_with_len e i)) nodes) (sym
      none)
      ∙ so_far
      ∙ ap (tried_each triples n (label_order triples))
      (is_old ∙ ap (λ (k : Node). done ++ k ∷ queue) (sym same) ∙ sym (append_assoc done (n ∷ []) queue))
      ∙ sym (sprout_tried (label_order triples) (done ++ n ∷ []) queue))

-- ---- turns

module _ (triples : List (List ℤ)) where
  -- the nodes before place i have had their turns
  abbrev pub IsGrown : List Node → ℕ → List Node → ℕ → Type 0
  IsGrown old t nodes k =
      grow triples (length triples - k) (take (length old + k) nodes) (drop (length old + k) nodes)
      ≡ grow triples (length triples) old (root_node t ∷ [])

  pub grown_none : (old : List Node) (t : ℕ) → IsGrown old t (old ++ root_node t ∷ []) 0
  grown_none old t =
      let here : length old ≡ length old + 0 = omega arith in
      let left : length triples - 0 ≡ length triples = omega arith in
      ap (λ (b : ℕ). grow triples b (take (length old + 0) (old ++ root_node t ∷ [])) (drop (length old + 0) (old ++
      root_node t ∷ []))) left
      ∙ ap (λ (ns : List Node). grow triples (length triples) ns (drop (length old + 0) (old ++ root_node t ∷ [])))
      (take_at old (root_node t ∷ []) (length old + 0) here)
      ∙ ap (grow triples (length triples) old) (drop_at old (root_node t ∷ []) (length old + 0) here)

  pub grown_more : (old nodes new : List Node) (t k : ℕ) → IsGrown old t nodes k → k < length triples
      → length old + k < length nodes
      → ((done queue : List Node) (n : Node) → nodes ≡ done ++ n ∷ queue → length done ≡ length old + k
      → new ≡ (done ++ n ∷ []) ++ sprout triples n (sides_in_order triples n.triangle) (done ++ n ∷ []) queue)
      → IsGrown old t new (k + 1)
  grown_more old nodes new t k so_far inside there turned =
      let i : ℕ = length old + k in
      let n : Node = get_or nodes (length old + k) (root_node t) in
      let done : List Node = take (length old + k) nodes in
      let queue : List Node = drop (length old + k + 1) nodes in
      let rest : drop i nodes ≡ n ∷ queue = drop_more nodes (length old + k) (root_node t) there in
      let long : length done ≡ i = length-take-le (length old + k) nodes (omega arith) in
      let is_new : new ≡ (done ++ n ∷ []) ++ sprout triples n (sides_in_order triples n.triangle) (done ++ n ∷ []) queue
      =
      turned done queue n (sym (take-append-drop i nodes) ∙ ap (λ (ns : List Node). done ++ ns) rest) long in
      let place : length (done ++ n ∷ []) ≡ length old + (k + 1) = length_push done n ∙ omega arith in
      let left : length triples - k ≡ suc (length triples - (k + 1)) = omega arith in
      ap (λ (ns : List Node). grow triples (length triples - (k + 1)) (take (length old + (k + 1)) ns) (drop (length
      old + (k + 1)) ns)) is_new
      ∙ ap (λ (ns : List Node). grow triples (length triples - (k + 1)) ns
      (drop (length old + (k + 1)) ((done ++ n ∷ []) ++ sprout triples n (sides_in_order triples n.triangle) (done ++ n
      ∷ []) queue)))
      (take_at (done ++ n ∷ []) (sprout triples n (sides_in_order triples n.triangle) (done ++ n ∷ []) queue) (length
      old + (k + 1)) place)
      ∙ ap (grow triples (length triples - (k + 1)) (done ++ n ∷ []))
      (drop_at (done ++ n ∷ []) (sprout triples n (sides_in_order triples n.triangle) (done ++ n ∷ []) queue) (length
      old + (k + 1)) place)
      ∙ ap (λ (b : ℕ). grow triples b done (n ∷ queue)) (sym left)
      ∙ ap (grow triples (length triples - k) done) (sym rest)
      ∙ so_far

  none_waits : (b : ℕ) (nodes : List Node) → grow triples b nodes [] ≡ nodes
  none_waits zero nodes = append-nil nodes
  none_waits (suc b) nodes = refl

  ended : (b : ℕ) (nodes : List Node) (i : ℕ) → length nodes ≤ i → grow triples b (take i nodes) (drop i nodes) ≡ nodes
  ended b nodes i all =
      ap (λ (ns : List Node). grow triples b ns (drop i nodes)) (take_all i nodes all)
      ∙ ap (grow triples b nodes) (drop_all i nodes all)
      ∙ none_waits b nodes

  pub grown_done : (old nodes : List Node) (t k : ℕ) → IsGrown old t nodes k → k < length triples
      → length nodes ≤ length old + k
      → IsGrown old t nodes (k + 1)
  grown_done old nodes t k so_far inside all =
      let left : length triples - k ≡ suc (length triples - (k + 1)) = omega arith in
      ended (length triples - (k + 1)) nodes (length old + (k + 1)) (omega arith)
      ∙ sym (ended (suc (length triples - (k + 1))) nodes (length old + k) all)
      ∙ ap (λ (b : ℕ). grow triples b (take (length old + k) nodes) (drop (length old + k) nodes)) (sym left)
      ∙ so_far

  pub grown_all : (old nodes : List Node) (t k : ℕ) → IsGrown old t nodes k → length triples ≤ k
      → nodes ≡ grow triples (length triples) old (root_node t ∷ [])
  grown_all old nodes t k so_far all =
      let none : length triples - k ≡ 0 = omega arith in
      sym (take-append-drop (length old + k) nodes)
      ∙ ap (λ (i : ℕ). grow triples i (take (length old + k) nodes) (drop (length old + k) nodes)) (sym none)
      ∙ so_far

-- ---- the last letter

last_read : (x : ℤ) (w : List ℤ) (d : ℤ) → get_or (x ∷ w) (length w) d ≡ last_of x w
last_read x [] d = refl
last_read x (y ∷ w) d = last_read y w d

pub ends_across_last : (e : ℕ) (w : List ℤ) (x : ℤ) → 0 < length w → x ≡ get_or w (length w - 1) x
    → nat_eq (edge_of x) e ≡ ends_across e w
ends_across_last e [] x some is_x = absurd (omega arith)
ends_across_last e (y ∷ w) x some is_x = ap (λ (z : ℤ). nat_eq (edge_of z) e)
    (is_x ∙ ap (λ (n : ℕ). get_or (y ∷ w) n x) (let place : length (y ∷ w) - 1 ≡ length w = omega arith in place)
    ∙ last_read y w x)

-- the node that was read
pub node_there : (nodes done queue : List Node) (i : ℕ) (m n : Node) → nodes ≡ done ++ n ∷ queue → length done ≡ i
    → m ≡ get_or nodes i m → m ≡ n
node_there nodes done queue i m n is_nodes here is_m = is_m ∙ ap (λ (ns : List Node). get_or ns i m) is_nodes
    ∙ get_or_at done n queue m i here

-- ---- trees

module _ (triples : List (List ℤ)) where
  -- the triangles from t on are still to come
  abbrev pub IsPlanted : List Node → ℕ → Type 0
  IsPlanted nodes t = plant triples (range_with_len t (length triples - t)) nodes ≡ forest triples

  pub planted_none : IsPlanted [] 0
  unfolding forest
  planted_none = let left : length triples - 0 ≡ length triples = omega arith in rw left refl

  pub planted_more : (nodes new : List Node) (t : ℕ) → IsPlanted nodes t → t < length triples → has_node nodes t ≡ false
      → new ≡ grow triples (length triples) nodes (root_node t ∷ []) → IsPlanted new (t + 1)
  planted_more nodes new t so_far inside fresh is_new =
      let left : length triples - t ≡ suc (length triples - (t + 1)) = omega arith in
      let now : plant triples (range_with_len t (suc (length triples - (t + 1)))) nodes
      ≡ forest triples = ap (λ (b : ℕ). plant triples (range_with_len t b) nodes) (sym left) ∙ so_far in
      rw is_new (rw fresh at now)

  pub planted_past : (nodes : List Node) (t : ℕ) → IsPlanted nodes t → t < length triples → has_node nodes t ≡ true
      → IsPlanted nodes (t + 1)
  planted_past nodes t so_far inside reached =
      let left : length triples - t ≡ suc (length triples - (t + 1)) = omega arith in
      let now : plant triples (range_with_len t (suc (length triples - (t + 1)))) nodes
      ≡ forest triples = ap (λ (b : ℕ). plant triples (range_with_len t b) nodes) (sym left) ∙ so_far in
      rw reached at now

  pub planted_all : (nodes : List Node) (t : ℕ) → IsPlanted nodes t → length triples ≤ t → nodes ≡ forest triples
  planted_all nodes t so_far all = let none : length triples - t ≡ 0 = omega arith in rw none at so_far
