-- The table of places of a triangulation, and the table after two triangles are changed.
--
-- Different labels written one after another make a table that has each at its place: later ones have other keys. So a
-- triangulation, in which each label stands once, has exactly one table.
--
-- Let all triangles but i and j be the same in two triangulations. If the sides of the new triangles i and j are
-- written into the old table, it becomes the new one. This is seen key by key. A side of i or j has its new place. A
-- label that stands in another triangle has its old place, which is the new one. A key of no label is empty in both.
use Rattle.std.proofs.Common.{ℕ, ℤ, pos, negsuc, List, [], ◌∷◌, ◌≡◌, ◌≢◌, ◌≤◌, ◌<◌, ◌+◌, ◌-◌, ◌*◌, ◌/◌, ◌%◌, suc, zero}
use Rattle.std.proofs.Common.{inl, inr, refl, sym, ◌∙◌, ap, subst, arith, length, take, set, get_or, replicate}
use Rattle.std.specs.List.{All}
use Rattle.std.proofs.lemmas.Bool.{cases_eq}
use Rattle.std.proofs.lemmas.List.{length-set, get_or-set_same, get_or-set_other, get_or-take, length-take-le, take_all}
use Rattle.std.proofs.lemmas.Grind.{same_number_lists}
use Rattle.std.proofs.lemmas.List.Elements.{All-head, All-tail, All-from_get_or}
use Rattle.ideal_tri.specs.declared.tri.TheConstants.{EDGES, LABELS, NOWHERE}
use Rattle.ideal_tri.specs.Labels.{edge_of}
use Rattle.ideal_tri.specs.Triangulations.{labels_of, edge_count, IsLabel, IsTriangulation}
use Rattle.ideal_tri.specs.Refusals.{IsDistinct, IsOfGoodSize}
use Rattle.ideal_tri.specs.inside.Places.{key_of, label_at, with_places, places_of, IsPlaced, IsGlued}
use Rattle.ideal_tri.proofs.Places.{key_below, key_apart, none_placed, next_placed, small_label}
use Rattle.ideal_tri.proofs.Counting.{count, hit, count-cons, hit_same, lt_or_le, length-labels_of}
use Rattle.ideal_tri.proofs.Sides.{Stands, stands, IsFound, found, is_label_at}
use Rattle.ideal_tri.proofs.Triangles.{IsOnce-triangulation, label_of_counted}

-- each is a label of at most EDGES edges
abbrev AreSmall : List ℤ → Type 0
AreSmall xs = All (λ (x : ℤ). edge_of x < EDGES) xs

-- ---- places written one after another

written-length : (places : List ℕ) (at : ℕ) (xs : List ℤ) → length (with_places places at xs) ≡ length places
written-length places at [] = refl
written-length places at (x ∷ xs) =
    written-length (set places (key_of x) at) (at + 1) xs ∙ length-set places (key_of x) at

written-other : (places : List ℕ) (at : ℕ) (xs : List ℤ) (x : ℤ) → edge_of x < EDGES → AreSmall xs
    → ((k : ℕ) → k < length xs → get_or xs k (pos 0) ≢ x)
    → get_or (with_places places at xs) (key_of x) 0 ≡ get_or places (key_of x) 0
written-other places at [] x h all ne = refl
written-other places at (y ∷ ys) x h all ne =
    written-other (set places (key_of y) at) (at + 1) ys x h (All-tail (λ (z : ℤ). edge_of z < EDGES) y ys all)
    (λ k b. ne (suc k) (omega arith))
    ∙ get_or-set_other places (key_of y) (key_of x) at 0
    (λ e. key_apart y x (All-head (λ (z : ℤ). edge_of z < EDGES) y ys all) h (ne 0 (omega arith)) (sym e))

written-at : (places : List ℕ) (at : ℕ) (xs : List ℤ) (k : ℕ) → length places ≡ LABELS → AreSmall xs → IsDistinct xs
    → k < length xs
    → get_or (with_places places at xs) (key_of (get_or xs k (pos 0))) 0 ≡ at + k
written-at places at [] k room all d b = absurd (omega arith)
written-at places at (y ∷ ys) zero room all d b =
    let small : edge_of y < EDGES = All-head (λ (z : ℤ). edge_of z < EDGES) y ys all in
    written-other (set places (key_of y) at) (at + 1) ys y small (All-tail (λ (z : ℤ). edge_of z < EDGES) y ys all)
    (λ k c e. d 0 (suc k) (omega arith) (omega arith) (sym e))
    ∙ get_or-set_same places (key_of y) at 0 (omega (arith, key_below y small, room))
    ∙ omega arith
written-at places at (y ∷ ys) (suc k) room all d b =
    written-at (set places (key_of y) at) (at + 1) ys k (length-set places (key_of y) at ∙ room)
    (All-tail (λ (z : ℤ). edge_of z < EDGES) y ys all)
    (λ i j a c. d (suc i) (suc j) (omega arith) (omega arith)) (omega arith)
    ∙ omega arith

-- ---- different labels have a table

placed_take : (xs : List ℤ) → AreSmall xs → IsDistinct xs → length xs < NOWHERE → (k : ℕ) → k ≤ length xs
    → IsPlaced (take k xs) (places_of (take k xs))
unfolding places_of
placed_take xs all d few zero h = none_placed (replicate LABELS NOWHERE) refl
placed_take xs all d few (suc k) h =
    let before : IsPlaced (take k xs) (places_of (take k xs)) = placed_take xs all d few k (omega arith) in
    let small : edge_of (get_or xs k (pos 0)) < EDGES = all k (pos 0) (omega arith) in
    let free : get_or (places_of (take k xs)) (key_of (get_or xs k (pos 0))) 0 ≡ NOWHERE =
    elim (cases_eq (get_or (places_of (take k xs)) (key_of (get_or xs k (pos 0))) 0) NOWHERE) [
      | inl e ↦ e
      | inr ne ↦
          (let (within, is) = before.used (get_or xs k (pos 0)) small ne in
          let long : length (take k xs) ≡ k = length-take-le k xs (omega arith) in
          absurd
          (d (get_or (places_of (take k xs)) (key_of (get_or xs k (pos 0))) 0) k (omega arith) (omega arith)
          (sym (get_or-take k xs (get_or (places_of (take k xs)) (key_of (get_or xs k (pos 0))) 0) (pos 0)
          (omega arith)) ∙ is)))
    ] in
    let more : IsPlaced (take (k + 1) xs) (set (places_of (take k xs)) (key_of (get_or xs k (pos 0))) k) =
    next_placed xs (places_of (take k xs)) k (omega arith) (omega arith) before small free in
    let next : k + 1 ≡ suc k = omega arith in
    subst (λ (n : ℕ). IsPlaced (take n xs) (places_of (take n xs))) next
    (subst (λ (z : List ℕ). IsPlaced (take (k + 1) xs) z) more.table more)

placed : (xs : List ℤ) → AreSmall xs → IsDistinct xs → length xs < NOWHERE → IsPlaced xs (places_of xs)
placed xs all d few =
    subst (λ (z : List ℤ). IsPlaced z (places_of z)) (take_all (length xs) xs (omega arith))
    (placed_take xs all d few (length xs) (omega arith))

-- ---- the labels of a triangulation

count_there : (xs : List ℤ) (k : ℕ) → k < length xs → 0 < count xs (get_or xs k (pos 0))
count_there [] k b = absurd (omega arith)
count_there (y ∷ ys) zero b = omega (arith, count-cons y ys y, hit_same y)
count_there (y ∷ ys) (suc k) b = omega (arith, count-cons y ys (get_or ys k (pos 0)), count_there ys k (omega arith))

pub distinct_of_counts : (xs : List ℤ) → ((x : ℤ) → count xs x ≤ 1) → IsDistinct xs
distinct_of_counts [] h = λ i j a b e. omega arith
distinct_of_counts (y ∷ ys) h = go (distinct_of_counts ys (λ x. omega (arith, h x, count-cons y ys x)))
  where
    go : IsDistinct ys → (i j : ℕ) → i < j → j < length (y ∷ ys) → get_or (y ∷ ys) i (pos 0) ≢ get_or (y ∷ ys) j (pos 0)
    go later i zero a b e = omega arith
    go later zero (suc j) a b e =
        let here : hit y (get_or ys j (pos 0)) ≡ 1 =
        ap (λ (z : ℤ). hit z (get_or ys j (pos 0))) e ∙ hit_same (get_or ys j (pos 0)) in
        omega (arith, h (get_or ys j (pos 0)), count-cons y ys (get_or ys j (pos 0)), count_there ys j (omega arith))
    go later (suc i) (suc j) a b e = later i j (omega arith) (omega arith) e

-- a triangulation of at most EDGES edges has its table
pub glued : (ts : List (List ℤ)) → IsTriangulation ts → IsOfGoodSize ts → IsGlued ts (places_of (labels_of ts))
glued ts h size =
    let within : All (IsLabel ts) (labels_of ts) =
    All-from_get_or (IsLabel ts) (labels_of ts) (pos 0)
    (λ k b. label_of_counted ts h (get_or (labels_of ts) k (pos 0)) (count_there (labels_of ts) k b)) in
    let few : edge_count ts ≤ EDGES = size.few in
    let long : length (labels_of ts) ≡ 3 * length ts = length-labels_of ts h.three_sides in
    record {
      size = size;
      three_sides = h.three_sides;
      in_range = within;
      placed = placed (labels_of ts)
          (All-from_get_or (λ (x : ℤ). edge_of x < EDGES) (labels_of ts) (pos 0)
          (λ k b. small_label ts (get_or (labels_of ts) k (pos 0)) size (within k (pos 0) b)))
          (distinct_of_counts (labels_of ts) (λ x. (IsOnce-triangulation ts h).once x)) (omega arith);
    }

-- ---- what the table has at each key

at_place : (ts : List (List ℤ)) (places : List ℕ) (t s : ℕ) → IsGlued ts places → t < length ts → s < 3
    → get_or places (key_of (label_at ts t s)) 0 ≡ 3 * t + s
at_place ts places t s h b c =
    let here : IsFound ts places (label_at ts t s) =
    found ts places (label_at ts t s) h (is_label_at ts places t s h b c) in
    let there : Stands ts (label_at ts t s) t s =
    stands ts (label_at ts t s) t s h.three_sides h.placed.distinct b c refl in
    let triangle : get_or places (key_of (label_at ts t s)) 0 / 3 ≡ t = sym here.stands.triangle ∙ there.triangle in
    let side : get_or places (key_of (label_at ts t s)) 0 % 3 ≡ s = sym here.stands.side ∙ there.side in
    omega arith

at_no_label : (ts : List (List ℤ)) (places : List ℕ) (x : ℤ) → IsGlued ts places → edge_of x < EDGES
    → edge_count ts ≤ edge_of x
    → get_or places (key_of x) 0 ≡ NOWHERE
at_no_label ts places x h small b =
    elim (cases_eq (get_or places (key_of x) 0) NOWHERE) [
      | inl e ↦ e
      | inr ne ↦
          (let (within, is) = h.placed.used x small ne in
          let label : IsLabel ts x = subst (IsLabel ts) is (h.in_range (get_or places (key_of x) 0) (pos 0) within) in
          omega arith)
    ]

-- each key is that of a label
record HasKey (k : ℕ) : Type 0 where
  label : ℤ
  small : edge_of label < EDGES
  key : key_of label ≡ k

has_key : (k : ℕ) → k < LABELS → HasKey k
has_key k h =
    elim (lt_or_le k EDGES) [
      | inl b ↦ record { label = negsuc (47 - k); small = omega arith; key = omega arith }
      | inr b ↦ record { label = pos (k - EDGES); small = omega arith; key = omega arith }
    ]

-- ---- one triangle of a triangulation with its table

row_small : (ts : List (List ℤ)) (places : List ℕ) (t : ℕ) → IsGlued ts places → t < length ts
    → AreSmall (get_or ts t [])
row_small ts places t h b =
    let three : length (get_or ts t []) ≡ 3 = h.three_sides t [] b in
    All-from_get_or (λ (x : ℤ). edge_of x < EDGES) (get_or ts t []) (pos 0)
    (λ s c. small_label ts (label_at ts t s) h.size (is_label_at ts places t s h b (omega arith)))

row_distinct : (ts : List (List ℤ)) (places : List ℕ) (t : ℕ) → IsGlued ts places → t < length ts
    → IsDistinct (get_or ts t [])
row_distinct ts places t h b = λ r s a c e.
    let three : length (get_or ts t []) ≡ 3 = h.three_sides t [] b in
    let first : Stands ts (label_at ts t s) t r =
    stands ts (label_at ts t s) t r h.three_sides h.placed.distinct b (omega arith) e in
    let second : Stands ts (label_at ts t s) t s =
    stands ts (label_at ts t s) t s h.three_sides h.placed.distinct b (omega arith) refl in
    let same : r ≡ s = sym first.side ∙ second.side in
    omega arith

-- a label that stands elsewhere is no side of the triangle
row_without : (ts : List (List ℤ)) (places : List ℕ) (x : ℤ) (t i s : ℕ) → IsGlued ts places → t < length ts
    → Stands ts x i s → t ≢ i
    → (k : ℕ) → k < length (get_or ts t []) → get_or (get_or ts t []) k (pos 0) ≢ x
row_without ts places x t i s h b at ne k c e =
    let three : length (get_or ts t []) ≡ 3 = h.three_sides t [] b in
    let here : Stands ts x t k = stands ts x t k h.three_sides h.placed.distinct b (omega arith) e in
    ne (sym here.triangle ∙ at.triangle)

-- ---- two triangles are changed

-- all triangles but i and j are the same in both
pub record AreChanged (ts us : List (List ℤ)) (i j : ℕ) : Type 0 where
  pub long : length us ≡ length ts
  pub first : i < length us
  pub second : j < length us
  pub apart : i ≢ j
  pub others : (t : ℕ) → t ≢ i → t ≢ j → get_or us t [] ≡ get_or ts t []

-- the table, after the places of two triangles are written
abbrev rewritten : List (List ℤ) → List ℕ → ℕ → ℕ → List ℕ
rewritten us places i j = with_places (with_places places (3 * i) (get_or us i [])) (3 * j) (get_or us j [])

-- a label that is no side of the two
at_outside : (us : List (List ℤ)) (places after : List ℕ) (i j : ℕ) → IsGlued us after → i < length us → j < length us
    → (x : ℤ) → edge_of x < EDGES
    → ((k : ℕ) → k < length (get_or us i []) → get_or (get_or us i []) k (pos 0) ≢ x)
    → ((k : ℕ) → k < length (get_or us j []) → get_or (get_or us j []) k (pos 0) ≢ x)
    → get_or (rewritten us places i j) (key_of x) 0 ≡ get_or places (key_of x) 0
at_outside us places after i j h first second x small not_i not_j =
    written-other (with_places places (3 * i) (get_or us i [])) (3 * j) (get_or us j []) x small
    (row_small us after j h second) not_j
    ∙ written-other places (3 * i) (get_or us i []) x small (row_small us after i h first) not_i

at_label : (ts us : List (List ℤ)) (places after : List ℕ) (i j : ℕ) → IsGlued ts places → IsGlued us after
    → AreChanged ts us i j → (t s : ℕ)
    → t < length us → s < 3 → get_or (rewritten us places i j) (key_of (label_at us t s)) 0 ≡ 3 * t + s
at_label ts us places after i j g h change t s b c =
    elim (cases_eq t j) [
      | inl at_j ↦
          subst (λ (n : ℕ). get_or (rewritten us places i j) (key_of (label_at us n s)) 0 ≡ 3 * n + s) (sym at_j)
          (written-at (with_places places (3 * i) (get_or us i [])) (3 * j) (get_or us j []) s
          (written-length places (3 * i) (get_or us i []) ∙ g.placed.room) (row_small us after j h change.second)
          (row_distinct us after j h change.second)
          (subst (λ (n : ℕ). s < n) (sym (h.three_sides j [] change.second)) c))
      | inr not_j ↦
          elim (cases_eq t i) [
            | inl at_i ↦
                subst (λ (n : ℕ). get_or (rewritten us places i j) (key_of (label_at us n s)) 0 ≡ 3 * n + s) (sym at_i)
                (written-other (with_places places (3 * i) (get_or us i [])) (3 * j) (get_or us j []) (label_at us i s)
                (small_label us (label_at us i s) h.size (is_label_at us after i s h change.first c))
                (row_small us after j h change.second)
                (row_without us after (label_at us i s) j i s h change.second (there i change.first)
                (λ e. change.apart (sym e)))
                ∙ written-at places (3 * i) (get_or us i []) s g.placed.room (row_small us after i h change.first)
                (row_distinct us after i h change.first)
                (subst (λ (n : ℕ). s < n) (sym (h.three_sides i [] change.first)) c))
            | inr not_i ↦
                at_outside us places after i j h change.first change.second (label_at us t s)
                (small_label us (label_at us t s) h.size (is_label_at us after t s h b c))
                (row_without us after (label_at us t s) i t s h change.first (there t b) (λ e. not_i (sym e)))
                (row_without us after (label_at us t s) j t s h change.second (there t b) (λ e. not_j (sym e)))
                ∙ ap (λ (z : List ℤ). get_or places (key_of (get_or z s (pos 0))) 0) (change.others t not_i not_j)
                ∙ at_place ts places t s g (subst (λ (n : ℕ). t < n) change.long b) c
          ]
    ]
  where
    there : (n : ℕ) → n < length us → Stands us (label_at us n s) n s
    there n d = stands us (label_at us n s) n s h.three_sides h.placed.distinct d c refl

at_key : (ts us : List (List ℤ)) (places after : List ℕ) (i j : ℕ) → IsGlued ts places → IsGlued us after
    → AreChanged ts us i j → (x : ℤ)
    → edge_of x < EDGES → get_or (rewritten us places i j) (key_of x) 0 ≡ get_or after (key_of x) 0
at_key ts us places after i j g h change x small =
    elim (lt_or_le (edge_of x) (edge_count us)) [
      | inl label ↦
          (let here : IsFound us after x = found us after x h label in
          let below : get_or after (key_of x) 0 < 3 * length us = here.below in
          ap (λ (y : ℤ). get_or (rewritten us places i j) (key_of y) 0) (sym here.label)
          ∙ at_label ts us places after i j g h change (get_or after (key_of x) 0 / 3) (get_or after (key_of x) 0 % 3)
          (omega arith) (omega arith)
          ∙ omega arith)
      | inr none ↦
          at_outside us places after i j h change.first change.second x small (not_in i change.first none)
          (not_in j change.second none)
          ∙ at_no_label ts places x g small (subst (λ (n : ℕ). 3 * n / 2 ≤ edge_of x) change.long none)
          ∙ sym (at_no_label us after x h small none)
    ]
  where
    not_in : (t : ℕ) → t < length us → edge_count us ≤ edge_of x → (k : ℕ) → k < length (get_or us t [])
        → get_or (get_or us t []) k (pos 0) ≢ x
    not_in t b none k c e =
        let three : length (get_or us t []) ≡ 3 = h.three_sides t [] b in
        let label : IsLabel us (label_at us t k) = is_label_at us after t k h b (omega arith) in
        let same : edge_of (label_at us t k) ≡ edge_of x = ap edge_of e in
        omega arith

-- the table after two triangles are changed is the old one, with the places of the two written
pub changed_table : (ts us : List (List ℤ)) (places after : List ℕ) (i j : ℕ) → IsGlued ts places → IsGlued us after
    → AreChanged ts us i j
    → with_places (with_places places (3 * i) (get_or us i [])) (3 * j) (get_or us j []) ≡ after
changed_table ts us places after i j g h change =
    same_number_lists (rewritten us places i j) after (long ∙ sym h.placed.room)
    (λ k b.
    let key : HasKey k = has_key k (omega (arith, long)) in
    subst (λ (n : ℕ). get_or (rewritten us places i j) n 0 ≡ get_or after n 0) key.key
    (at_key ts us places after i j g h change key.label key.small))
  where
    long : length (rewritten us places i j) ≡ LABELS
    long =
        written-length (with_places places (3 * i) (get_or us i [])) (3 * j) (get_or us j [])
        ∙ written-length places (3 * i) (get_or us i [])
        ∙ g.placed.room
