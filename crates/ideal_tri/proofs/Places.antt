-- What the table of places knows of the labels that were written down.
--
-- Labels of at most EDGES edges have different keys below LABELS. At the key of a label the table has the number of
-- the place where it was written down, or a mark that it was not. A label is written only where the mark stands, so
-- all labels that are written are different; and it overwrites no other, since keys are different. So the invariant
-- goes on by one label: what is not marked tells a place where the label stands, and what is marked stands nowhere.
-- The triples are copied one after another, in front of zeros.
use Rattle.std.proofs.Common.{ℕ, ℤ, pos, negsuc, List, [], ◌∷◌, ◌++◌, ◌≡◌, ◌≢◌, ◌≤◌, ◌<◌, ◌+◌, ◌-◌, ◌*◌, ◌/◌, suc, ◌⊎◌}
use Rattle.std.proofs.Common.{inl, inr, refl, sym, ◌∙◌, ap, subst, arith, length, take, set, get_or, replicate}
use Rattle.std.proofs.Common.{append_assoc}
use Rattle.std.specs.List.{All}
use Rattle.std.proofs.lemmas.List.{length-set, get_or-set_same, get_or-set_other, get_or_append_left, get_or_push}
use Rattle.std.proofs.lemmas.List.{get_or-replicate, length-replicate, length_push, take_more, length-take-le, set_at}
use Rattle.std.proofs.lemmas.List.{take_all}
use Rattle.ideal_tri.specs.declared.tri.TheConstants.{EDGES, LABELS, NOWHERE, TRIANGLES}
use Rattle.ideal_tri.specs.Labels.{edge_of}
use Rattle.ideal_tri.specs.Triangulations.{labels_of, edge_count, IsLabel}
use Rattle.ideal_tri.specs.Refusals.{IsOfGoodSize}
use Rattle.ideal_tri.specs.inside.Places.{key_of, with_places, places_of, spare_triples, IsPlaced}
use Rattle.ideal_tri.proofs.Labels.{same_or_not}

-- ---- keys

pub key_below : (x : ℤ) → edge_of x < EDGES → key_of x < LABELS
key_below (pos n) h = omega arith
key_below (negsuc n) h = omega arith

-- two labels in range have different keys
pub key_apart : (x y : ℤ) → edge_of x < EDGES → edge_of y < EDGES → x ≢ y → key_of x ≢ key_of y
key_apart (pos m) (pos n) h k ne e = ne (ap pos (omega arith))
key_apart (pos m) (negsuc n) h k ne e = omega arith
key_apart (negsuc m) (pos n) h k ne e = omega arith
key_apart (negsuc m) (negsuc n) h k ne e = ne (ap negsuc (omega arith))

-- ---- one label after another

with_places-push : (places : List ℕ) (at : ℕ) (xs : List ℤ) (x : ℤ)
    → with_places places at (xs ++ (x ∷ [])) ≡ set (with_places places at xs) (key_of x) (at + length xs)
with_places-push places at [] x = ap (set places (key_of x)) (omega arith)
with_places-push places at (y ∷ ys) x =
    with_places-push (set places (key_of y) at) (at + 1) ys x
    ∙ ap (set (with_places (set places (key_of y) at) (at + 1) ys) (key_of x)) (omega arith)

pub none_placed : (places : List ℕ) → places ≡ replicate LABELS NOWHERE → IsPlaced [] places
unfolding places_of
none_placed places e = record {
  room = ap length e ∙ length-replicate {A = ℕ} LABELS NOWHERE;
  table = e;
  free = λ x h f k below. omega arith;
  used =
      λ x h n. absurd
      (n (ap (λ (z : List ℕ). get_or z (key_of x) 0) e ∙ get_or-replicate {A = ℕ} LABELS (key_of x) NOWHERE 0
      (key_below x h)));
  distinct = λ i j a b. omega arith;
}

lt_or_eq : (k n : ℕ) → k < n + 1 → (k < n) ⊎ (k ≡ n)
lt_or_eq k n h = grind arith

get_or-push_before : (xs : List ℤ) (x : ℤ) (k : ℕ) → k < length xs
    → get_or (xs ++ (x ∷ [])) k (pos 0) ≡ get_or xs k (pos 0)
get_or-push_before xs x k h = get_or_append_left xs (x ∷ []) (pos 0) k h

pub one_placed : (xs : List ℤ) (places : List ℕ) (x : ℤ) (n : ℕ) → IsPlaced xs places → edge_of x < EDGES
    → get_or places (key_of x) 0 ≡ NOWHERE
    → n ≡ length xs → n < NOWHERE → IsPlaced (xs ++ (x ∷ [])) (set places (key_of x) n)
unfolding places_of
one_placed xs places x n h in_range untaken at small = record {
  room = length-set places (key_of x) n ∙ h.room;
  table =
      ap (λ (z : List ℕ). set z (key_of x) n) h.table
      ∙ ap (set (with_places (replicate LABELS NOWHERE) 0 xs) (key_of x)) (omega arith)
      ∙ sym (with_places-push (replicate LABELS NOWHERE) 0 xs x);
  free = λ y y_in f k below.
      elim (same_or_not x y) [
        | inl e ↦
            absurd (not_255
            (sym (get_or-set_same places (key_of x) n 0 (in_room x in_range)) ∙ ap
            (λ (z : ℤ). get_or (set places (key_of x) n) (key_of z) 0) e ∙ f))
        | inr ne ↦ (λ same.
            elim (before_or_last k below) [
              | inl b ↦ h.free y y_in (sym (kept y y_in ne) ∙ f) k b (sym (get_or-push_before xs x k b) ∙ same)
              | inr l ↦ ne (sym (get_or_push xs x (pos 0) k (sym l)) ∙ same)
            ])
      ];
  used = λ y y_in taken.
      elim (same_or_not x y) [
        | inl e ↦
            (let here : get_or (set places (key_of x) n) (key_of y) 0 ≡ length xs =
            ap (λ (z : ℤ). get_or (set places (key_of x) n) (key_of z) 0) (sym e)
            ∙ get_or-set_same places (key_of x) n 0 (in_room x in_range) ∙ at in (
              omega (arith, length_push xs x),
              ap (λ (k : ℕ). get_or (xs ++ (x ∷ [])) k (pos 0)) here ∙ get_or_push xs x (pos 0) (length xs) refl ∙ e,
            ))
        | inr ne ↦
            (let old : record
            { 0 : get_or places (key_of y) 0 < length xs; 1 : get_or xs (get_or places (key_of y) 0) (pos 0) ≡ y } =
            h.used y y_in (λ f. taken (kept y y_in ne ∙ f)) in
            let same : get_or (set places (key_of x) n) (key_of y) 0 ≡ get_or places (key_of y) 0 = kept y y_in ne in
            let below : get_or places (key_of y) 0 < length xs = old.0 in (
              omega (arith, length_push xs x),
              ap (λ (k : ℕ). get_or (xs ++ (x ∷ [])) k (pos 0)) same
                  ∙ get_or-push_before xs x (get_or places (key_of y) 0) below
                  ∙ old.1,
            ))
      ];
  distinct = λ i j a b e.
      elim (before_or_last j b) [
        | inl j_before ↦
            h.distinct i j a j_before
            (sym (get_or-push_before xs x i (omega arith)) ∙ e ∙ get_or-push_before xs x j j_before)
        | inr l ↦
            h.free x in_range untaken i (omega arith)
            (sym (get_or-push_before xs x i (omega arith)) ∙ e ∙ get_or_push xs x (pos 0) j (sym l))
      ];
}
  where
    in_room : (y : ℤ) → edge_of y < EDGES → key_of y < length places
    in_room y y_in = omega (arith, key_below y y_in, h.room)

    not_255 : n ≢ NOWHERE
    not_255 = omega arith

    kept : (y : ℤ) → edge_of y < EDGES → x ≢ y
        → get_or (set places (key_of x) n) (key_of y) 0 ≡ get_or places (key_of y) 0
    kept y y_in ne = get_or-set_other places (key_of x) (key_of y) n 0 (λ e. key_apart x y in_range y_in ne (sym e))

    before_or_last : (k : ℕ) → k < length (xs ++ (x ∷ [])) → (k < length xs) ⊎ (k ≡ length xs)
    before_or_last k b = lt_or_eq k (length xs) (omega (arith, length_push xs x))

-- the first k labels are placed, and the next one was not read before
pub next_placed : (xs : List ℤ) (places : List ℕ) (k : ℕ) → k < length xs → k < NOWHERE → IsPlaced (take k xs) places
    → edge_of (get_or xs k (pos 0)) < EDGES → get_or places (key_of (get_or xs k (pos 0))) 0 ≡ NOWHERE
    → IsPlaced (take (k + 1) xs) (set places (key_of (get_or xs k (pos 0))) k)
next_placed xs places k h small placed in_range untaken =
    subst (λ (z : List ℤ). IsPlaced z (set places (key_of (get_or xs k (pos 0))) k)) (sym (take_more xs k (pos 0) h))
    (one_placed (take k xs) places (get_or xs k (pos 0)) k placed in_range untaken
    (sym (length-take-le k xs (omega arith))) small)

-- ---- all labels of the triples

pub small_size : (ts : List (List ℤ)) → IsOfGoodSize ts → length ts ≤ TRIANGLES
small_size ts h =
    let few : 3 * length ts / 2 ≤ EDGES = h.few in
    omega arith

pub small_label : (ts : List (List ℤ)) (x : ℤ) → IsOfGoodSize ts → IsLabel ts x → edge_of x < EDGES
small_label ts x size h =
    let few : edge_count ts ≤ EDGES = size.few in
    omega arith

pub small_read : (ts : List (List ℤ)) (xs : List ℤ) (k : ℕ) → xs ≡ labels_of ts → IsOfGoodSize ts
    → All (IsLabel ts) (labels_of ts) → k < length xs
    → edge_of (get_or xs k (pos 0)) < EDGES
small_read ts xs k e size h b =
    let within : All (IsLabel ts) xs = subst (λ (z : List ℤ). All (IsLabel ts) z) (sym e) h in
    small_label ts (get_or xs k (pos 0)) size (within k (pos 0) b)

-- ---- the array of triples

pub read_triple : (t : List ℤ) (a b c : ℤ) → length t ≡ 3 → a ≡ get_or t 0 (pos 0) → b ≡ get_or t 1 (pos 0)
    → c ≡ get_or t 2 (pos 0)
    → ◌≡◌ {A = List ℤ} (a ∷ (b ∷ (c ∷ []))) t
read_triple [] a b c h e f g = absurd (omega arith)
read_triple (x ∷ []) a b c h e f g = absurd (omega arith)
read_triple (x ∷ (y ∷ [])) a b c h e f g = absurd (omega arith)
read_triple (x ∷ (y ∷ (z ∷ []))) a b c h e f g = cc
read_triple (x ∷ (y ∷ (z ∷ (u ∷ t)))) a b c h e f g = absurd (omega arith)

pub copied_next : (ts sides : List (List ℤ)) (t : ℕ) → t < length ts → length ts ≤ TRIANGLES
    → sides ≡ take t ts ++ spare_triples (TRIANGLES - t)
    → set sides t (get_or ts t []) ≡ take (t + 1) ts ++ spare_triples (TRIANGLES - (t + 1))
unfolding spare_triples
copied_next ts sides t h small e =
    let count : TRIANGLES - t ≡ suc (TRIANGLES - (t + 1)) = omega arith in
    ap (λ (z : List (List ℤ)). set z t (get_or ts t [])) (e ∙ ap (λ (n : ℕ). take t ts ++ spare_triples n) count)
    ∙ set_at (take t ts) (pos 0 ∷ (pos 0 ∷ (pos 0 ∷ []))) (spare_triples (TRIANGLES - (t + 1))) (get_or ts t []) t
    (length-take-le t ts (omega arith))
    ∙ sym (append_assoc (take t ts) (get_or ts t [] ∷ []) (spare_triples (TRIANGLES - (t + 1))))
    ∙ ap (λ (z : List (List ℤ)). z ++ spare_triples (TRIANGLES - (t + 1))) (sym (take_more ts t [] h))

pub all_copied : (ts sides : List (List ℤ)) (t : ℕ) → length ts ≡ t → sides ≡ take t ts ++ spare_triples (TRIANGLES - t)
    → sides ≡ ts ++ spare_triples (TRIANGLES - length ts)
all_copied ts sides t h e =
    e ∙ ap (λ (z : List (List ℤ)). z ++ spare_triples (TRIANGLES - t)) (take_all t ts (omega arith))
    ∙ ap (λ (n : ℕ). ts ++ spare_triples (TRIANGLES - n)) (sym h)

pub length-spare_triples : (n : ℕ) → length (spare_triples n) ≡ n
unfolding spare_triples
length-spare_triples n = length-replicate n (pos 0 ∷ (pos 0 ∷ (pos 0 ∷ [])))
