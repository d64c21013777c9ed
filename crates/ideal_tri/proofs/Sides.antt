-- Where a label stands, read off the table of places: its triangle, its side there, and the side after it.
--
-- The labels of all triples in a row have side s of triangle i at the place 3 i + s. They are different, so a search
-- for one of them finds it at its only place: the first triple that has it is triangle i, and it stands there as side
-- s; the side after it is side s + 1, or side 0 after side 2. The table has the place of each label, so quotient and
-- remainder by 3 give its triangle and its side. Since all labels of the range stand in the triples, no entry of a
-- label is empty.
use Rattle.std.proofs.Common.{ℕ, ℤ, pos, Bool, true, false, List, [], ◌∷◌, ◌≡◌, ◌≢◌, ◌≤◌, ◌<◌, ◌+◌, ◌*◌, ◌/◌, ◌%◌, suc}
use Rattle.std.proofs.Common.{zero, sym, ◌∙◌, ap, subst, if◌then◌else◌, arith, length, take, get_or, length-take-le}
use Rattle.std.specs.List.{All}
use Rattle.std.specs.Ordering.{int_eq}
use Rattle.std.proofs.lemmas.List.{get_or_default, get_or-take}
use Rattle.std.proofs.lemmas.List.Concat.{get_or-flat_map}
use Rattle.std.proofs.lemmas.List.Elements.{All-head, All-tail, All-take, All-from_get_or}
use Rattle.std.proofs.lemmas.List.Folds.{list_any_at, list_any_none}
use Rattle.ideal_tri.specs.declared.tri.TheConstants.{NOWHERE, TRIANGLES}
use Rattle.ideal_tri.specs.Triangulations.{labels_of, IsLabel, has_side, triangle_of, place_in, side_of, next_in, next}
use Rattle.ideal_tri.specs.Refusals.{IsDistinct}
use Rattle.ideal_tri.specs.inside.Places.{key_of, label_at, IsGlued, IsLaidOut}
use Rattle.ideal_tri.proofs.Labels.{int_eq-same, int_eq-other}
use Rattle.ideal_tri.proofs.Places.{small_label}
use Rattle.ideal_tri.proofs.Counting.{count, never, length-labels_of, AreAllLabels, all_labels}

-- each is a triple
abbrev AreTriples : List (List ℤ) → Type 0
AreTriples ts = All (λ (t : List ℤ). length t ≡ 3) ts

-- ---- the label that stands at a place

label_read : (ts : List (List ℤ)) (i s : ℕ) → AreTriples ts → i < length ts → s < 3
    → get_or (labels_of ts) (3 * i + s) (pos 0) ≡ label_at ts i s
label_read ts i s three b c =
    let before : length (labels_of (take i ts)) ≡ 3 * length (take i ts) =
    length-labels_of (take i ts) (All-take (λ (t : List ℤ). length t ≡ 3) i ts three) in
    let long : length (take i ts) ≡ i = length-take-le i ts (omega arith) in
    let here : length (get_or ts i []) ≡ 3 = three i [] b in
    ap (λ (k : ℕ). get_or (labels_of ts) k (pos 0)) (omega arith)
    ∙ get_or-flat_map (λ (t : List ℤ). t) ts i s [] (pos 0) b (omega arith)

pub label_there : (ts : List (List ℤ)) (k : ℕ) → AreTriples ts → k < 3 * length ts
    → get_or (labels_of ts) k (pos 0) ≡ label_at ts (k / 3) (k % 3)
label_there ts k three b =
    ap (λ (n : ℕ). get_or (labels_of ts) n (pos 0)) (omega arith)
    ∙ label_read ts (k / 3) (k % 3) three (omega arith) (omega arith)

-- labels at different places are different
apart : (ts : List (List ℤ)) (i r j s : ℕ) → AreTriples ts → IsDistinct (labels_of ts) → r < 3 → s < 3 → j < length ts
    → 3 * i + r < 3 * j + s → label_at ts i r ≢ label_at ts j s
apart ts i r j s three distinct b c d order e =
    let long : length (labels_of ts) ≡ 3 * length ts = length-labels_of ts three in
    distinct (3 * i + r) (3 * j + s) order (omega arith)
    (label_read ts i r three (omega arith) b ∙ e ∙ sym (label_read ts j s three d c))

-- ---- within a triple

-- x is side s of the triple
record IsSide (t : List ℤ) (x : ℤ) (s : ℕ) : Type 0 where
  has : has_side x t ≡ true
  place : place_in t x ≡ s
  after : next_in t x ≡ get_or t ((s + 1) % 3) (pos 0)

has_not : (t : List ℤ) (x : ℤ) → ((r : ℕ) → r < length t → get_or t r (pos 0) ≢ x) → has_side x t ≡ false
has_not t x h =
    list_any_none (λ y. int_eq y x) t
    (All-from_get_or (λ y. int_eq y x ≡ false) t (pos 0) (λ r b. int_eq-other (get_or t r (pos 0)) x (h r b)))

has_at : (t : List ℤ) (x : ℤ) (s : ℕ) → s < length t → get_or t s (pos 0) ≡ x → has_side x t ≡ true
has_at t x s b e = list_any_at (λ y. int_eq y x) t s (pos 0) b (int_eq-same (get_or t s (pos 0)) x e)

first_side : (a b c x : ℤ) → a ≡ x → IsSide (a ∷ (b ∷ (c ∷ []))) x 0
first_side a b c x e =
    let h : int_eq a x ≡ true = int_eq-same a x e in
    record {
      has = has_at (a ∷ (b ∷ (c ∷ []))) x 0 (omega arith) e;
      place = ap (λ (v : Bool). if v then 0 else suc (place_in (b ∷ (c ∷ [])) x)) h;
      after = ap (λ (v : Bool). if v then b else (if int_eq b x then c else a)) h;
    }

second_side : (a b c x : ℤ) → a ≢ x → b ≡ x → IsSide (a ∷ (b ∷ (c ∷ []))) x 1
second_side a b c x ne e =
    let g : int_eq a x ≡ false = int_eq-other a x ne in
    let h : int_eq b x ≡ true = int_eq-same b x e in
    record {
      has = has_at (a ∷ (b ∷ (c ∷ []))) x 1 (omega arith) e;
      place =
          ap (λ (v : Bool). if v then 0 else suc (place_in (b ∷ (c ∷ [])) x)) g
          ∙ ap (λ (v : Bool). suc (if v then 0 else suc (place_in (c ∷ []) x))) h;
      after =
          ap (λ (v : Bool). if v then b else (if int_eq b x then c else a)) g ∙ ap (λ (v : Bool). if v then c else a) h;
    }

third_side : (a b c x : ℤ) → a ≢ x → b ≢ x → c ≡ x → IsSide (a ∷ (b ∷ (c ∷ []))) x 2
third_side a b c x ne nf e =
    let g : int_eq a x ≡ false = int_eq-other a x ne in
    let h : int_eq b x ≡ false = int_eq-other b x nf in
    let i : int_eq c x ≡ true = int_eq-same c x e in
    record {
      has = has_at (a ∷ (b ∷ (c ∷ []))) x 2 (omega arith) e;
      place =
          ap (λ (v : Bool). if v then 0 else suc (place_in (b ∷ (c ∷ [])) x)) g
          ∙ ap (λ (v : Bool). suc (if v then 0 else suc (place_in (c ∷ []) x))) h
          ∙ ap (λ (v : Bool). suc (suc (if v then 0 else suc 0))) i;
      after =
          ap (λ (v : Bool). if v then b else (if int_eq b x then c else a)) g ∙ ap (λ (v : Bool). if v then c else a) h;
    }

is_side : (t : List ℤ) (x : ℤ) (s : ℕ) → length t ≡ 3 → s < 3 → get_or t s (pos 0) ≡ x
    → ((r : ℕ) → r < s → get_or t r (pos 0) ≢ x) → IsSide t x s
is_side [] x s h b e f = absurd (omega arith)
is_side (a ∷ []) x s h b e f = absurd (omega arith)
is_side (a ∷ (b ∷ [])) x s h d e f = absurd (omega arith)
is_side (a ∷ (b ∷ (c ∷ []))) x zero h d e f = first_side a b c x e
is_side (a ∷ (b ∷ (c ∷ []))) x (suc zero) h d e f = second_side a b c x (f 0 (omega arith)) e
is_side (a ∷ (b ∷ (c ∷ []))) x (suc (suc zero)) h d e f = third_side a b c x (f 0 (omega arith)) (f 1 (omega arith)) e
is_side (a ∷ (b ∷ (c ∷ []))) x (suc (suc (suc s))) h d e f = absurd (omega arith)
is_side (a ∷ (b ∷ (c ∷ (u ∷ t)))) x s h d e f = absurd (omega arith)

-- ---- among all triples

-- x is side s of triangle i
pub record Stands (ts : List (List ℤ)) (x : ℤ) (i s : ℕ) : Type 0 where
  pub triangle : triangle_of ts x ≡ i
  pub side : side_of ts x ≡ s
  pub after : next ts x ≡ label_at ts i ((s + 1) % 3)

-- the place at which a search through the triples finds x
first_place : (ts : List (List ℤ)) (x : ℤ) (i s : ℕ) → AreTriples ts → i < length ts → s < 3 → label_at ts i s ≡ x
    → ((r : ℕ) → r < s → label_at ts i r ≢ x) → ((j r : ℕ) → j < i → r < 3 → label_at ts j r ≢ x) → Stands ts x i s
first_place [] x i s three b c e first before = absurd (omega arith)
first_place (t ∷ ts) x zero s three b c e first before =
    let here : IsSide t x s = is_side t x s (All-head (λ (z : List ℤ). length z ≡ 3) t ts three) c e first in
    record {
      triangle = ap (λ (v : Bool). if v then 0 else suc (triangle_of ts x)) here.has;
      side = ap (λ (v : Bool). if v then place_in t x else side_of ts x) here.has ∙ here.place;
      after = ap (λ (v : Bool). if v then next_in t x else next ts x) here.has ∙ here.after;
    }
first_place (t ∷ ts) x (suc i) s three b c e first before =
    let long : length t ≡ 3 = All-head (λ (z : List ℤ). length z ≡ 3) t ts three in
    let none : has_side x t ≡ false = has_not t x (λ r d. before 0 r (omega arith) (omega arith)) in
    let later : Stands ts x i s =
    first_place ts x i s (All-tail (λ (z : List ℤ). length z ≡ 3) t ts three) (omega arith) c e first
    (λ j r d f. before (suc j) r (omega arith) f) in
    record {
      triangle = ap (λ (v : Bool). if v then 0 else suc (triangle_of ts x)) none ∙ ap suc later.triangle;
      side = ap (λ (v : Bool). if v then place_in t x else side_of ts x) none ∙ later.side;
      after = ap (λ (v : Bool). if v then next_in t x else next ts x) none ∙ later.after;
    }

pub stands : (ts : List (List ℤ)) (x : ℤ) (i s : ℕ) → AreTriples ts → IsDistinct (labels_of ts) → i < length ts → s < 3
    → label_at ts i s ≡ x → Stands ts x i s
stands ts x i s three distinct b c e =
    first_place ts x i s three b c e
    (λ r d same. apart ts i r i s three distinct (omega arith) c b (omega arith) (same ∙ sym e))
    (λ j r d f same. apart ts j r i s three distinct f c b (omega arith) (same ∙ sym e))

-- ---- the table

pub record IsFound (ts : List (List ℤ)) (places : List ℕ) (x : ℤ) : Type 0 where
  pub below : get_or places (key_of x) 0 < 3 * length ts
  pub label : label_at ts (get_or places (key_of x) 0 / 3) (get_or places (key_of x) 0 % 3) ≡ x
  pub stands : Stands ts x (get_or places (key_of x) 0 / 3) (get_or places (key_of x) 0 % 3)

pub all_there : (ts : List (List ℤ)) (places : List ℕ) → IsGlued ts places → AreAllLabels ts
all_there ts places h = all_labels ts h.three_sides h.in_range h.placed.distinct

pub taken : (ts : List (List ℤ)) (places : List ℕ) (x : ℤ) → IsGlued ts places → IsLabel ts x
    → get_or places (key_of x) 0 ≢ NOWHERE
taken ts places x h b e =
    let all : AreAllLabels ts = all_there ts places h in
    let one : count (labels_of ts) x ≡ 1 = all.once x b in
    let none : count (labels_of ts) x ≡ 0 =
    never (labels_of ts) x (h.placed.free x (small_label ts x h.size b) e) in
    omega arith

pub found : (ts : List (List ℤ)) (places : List ℕ) (x : ℤ) → IsGlued ts places → IsLabel ts x → IsFound ts places x
found ts places x h b =
    let k : ℕ = get_or places (key_of x) 0 in
    let (within, is_x) = h.placed.used x (small_label ts x h.size b) (taken ts places x h b) in
    let long : length (labels_of ts) ≡ 3 * length ts = length-labels_of ts h.three_sides in
    let below : get_or places (key_of x) 0 < 3 * length ts = omega arith in
    let label : label_at ts (get_or places (key_of x) 0 / 3) (get_or places (key_of x) 0 % 3) ≡ x =
    sym (label_there ts (get_or places (key_of x) 0) h.three_sides below) ∙ is_x in
    record {
      below = below;
      label = label;
      stands =
          stands ts x (get_or places (key_of x) 0 / 3) (get_or places (key_of x) 0 % 3) h.three_sides h.placed.distinct
          (omega arith) (omega arith) label;
    }

-- ---- as the code reads the table

pub is_label_at : (ts : List (List ℤ)) (places : List ℕ) (i s : ℕ) → IsGlued ts places → i < length ts → s < 3
    → IsLabel ts (label_at ts i s)
is_label_at ts places i s h b c =
    let long : length (labels_of ts) ≡ 3 * length ts = length-labels_of ts h.three_sides in
    subst (IsLabel ts) (label_read ts i s h.three_sides b c) (h.in_range (3 * i + s) (pos 0) (omega arith))

-- what is read at the key of x
pub record IsRead (ts : List (List ℤ)) (x : ℤ) (n : ℕ) : Type 0 where
  pub triangle : n / 3 ≡ triangle_of ts x
  pub side : n % 3 ≡ side_of ts x
  pub within : n / 3 < length ts

pub read : (ts : List (List ℤ)) (places : List ℕ) (x : ℤ) (key n : ℕ) → IsGlued ts places → IsLabel ts x
    → key ≡ key_of x → n ≡ get_or places key 0
    → IsRead ts x n
read ts places x key n h b e f =
    let here : IsFound ts places x = found ts places x h b in
    let same : n ≡ get_or places (key_of x) 0 = f ∙ ap (λ (k : ℕ). get_or places k 0) e in
    let below : get_or places (key_of x) 0 < 3 * length ts = here.below in
    record {
      triangle = ap (λ (k : ℕ). k / 3) same ∙ sym here.stands.triangle;
      side = ap (λ (k : ℕ). k % 3) same ∙ sym here.stands.side;
      within = omega arith;
    }

-- the place of a label, by what it is
pub next_read : (ts : List (List ℤ)) (places : List ℕ) (x : ℤ) → IsGlued ts places → IsLabel ts x
    → (triangle_of ts x < length ts) × (next ts x ≡ label_at ts (triangle_of ts x) ((side_of ts x + 1) % 3))
next_read ts places x h b =
    let here : IsFound ts places x = found ts places x h b in
    let below : get_or places (key_of x) 0 < 3 * length ts = here.below in
    let e : triangle_of ts x ≡ get_or places (key_of x) 0 / 3 = here.stands.triangle in (
      omega arith,
      here.stands.after
          ∙ ap (λ (i : ℕ). label_at ts i ((get_or places (key_of x) 0 % 3 + 1) % 3)) (sym e)
          ∙ ap (λ (s : ℕ). label_at ts (triangle_of ts x) ((s + 1) % 3)) (sym here.stands.side),
    )

-- the side after x, read off the array of triples
pub next_side : (n : ℕ) (sides : List (List ℤ)) (places : List ℕ) (x : ℤ) (i s : ℕ) (d : ℤ) → IsLaidOut n sides places
    → IsLabel (take n sides) x
    → i ≡ triangle_of (take n sides) x → s ≡ side_of (take n sides) x
    → (i < TRIANGLES) × (get_or (get_or sides i []) ((s + 1) % 3) d ≡ next (take n sides) x)
next_side n sides places x i s d h b e f =
    let fits : n ≤ TRIANGLES = h.fits in
    let room : length sides ≡ TRIANGLES = h.room in
    let long : length (take n sides) ≡ n = length-take-le n sides (omega arith) in
    let (within, after) = next_read (take n sides) places x h.glued b in
    let below : i < n = omega arith in
    let row : get_or (take n sides) i [] ≡ get_or sides i [] = get_or-take n sides i [] below in
    let three : length (get_or (take n sides) i []) ≡ 3 = h.glued.three_sides i [] (omega arith) in (
      omega arith,
      ap (λ (z : List ℤ). get_or z ((s + 1) % 3) d) (sym row)
          ∙ get_or_default (get_or (take n sides) i []) ((s + 1) % 3) d (pos 0) (omega arith)
          ∙ ap (λ (j : ℕ). label_at (take n sides) j ((s + 1) % 3)) e
          ∙ ap (λ (r : ℕ). label_at (take n sides) (triangle_of (take n sides) x) ((r + 1) % 3)) f
          ∙ sym after,
    )

-- what the array holds of a triangle are labels
pub row_labels : (n : ℕ) (sides : List (List ℤ)) (places : List ℕ) (i : ℕ) → IsLaidOut n sides places
    → i < length (take n sides)
    → All (IsLabel (take n sides)) (get_or sides i [])
row_labels n sides places i h b =
    let fits : n ≤ TRIANGLES = h.fits in
    let room : length sides ≡ TRIANGLES = h.room in
    let long : length (take n sides) ≡ n = length-take-le n sides (omega arith) in
    let row : get_or (take n sides) i [] ≡ get_or sides i [] = get_or-take n sides i [] (omega arith) in
    let three : length (get_or (take n sides) i []) ≡ 3 = h.glued.three_sides i [] b in
    subst (λ (z : List ℤ). All (IsLabel (take n sides)) z) row
    (All-from_get_or (IsLabel (take n sides)) (get_or (take n sides) i []) (pos 0)
    (λ s d. is_label_at (take n sides) places i s h.glued b (omega arith)))
