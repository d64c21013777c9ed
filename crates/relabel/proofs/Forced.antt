-- The images that follow from the image of one label.
--
-- Two tables are filled: the images of the labels 0, 1, .., and which of them are known. At the start the image y of x
-- is known. While a label s has a known image and the label after it has none, the image of that one is the label after
-- the image of s. The tables keep: the known images are labels, and each relabelling that takes x to y has them, since
-- relabellings go with `next`. Each turn leaves fewer images unknown. When nothing more follows, the label after each
-- label with a known image has one, and so has its inverse; in a connected triangulation that is all labels
-- (`Connected`). So each relabelling that takes x to y has the images of the table: the list is the one such
-- relabelling where it passes the tests, and there is none where it is refused.
use Rattle.std.proofs.Common.{ℕ, ℤ, pos, negsuc, Bool, true, false, not, List, ◌≡◌, ◌≢◌, ◌≤◌, ◌<◌, ◌⊎◌, inl, inr}
use Rattle.std.proofs.Common.{sym, ◌∙◌, ap, ap₂, subst, arith, length, take, set, get_or, replicate, count_by, cond}
use Rattle.std.proofs.Common.{true≢false}
use Rattle.std.proofs.lemmas.Bool.{cases_eq, cases_lt}
use Rattle.std.proofs.lemmas.List.Sums.{sum_by-set}
use Rattle.std.proofs.lemmas.List.{get_or-set_same, get_or-set_other, get_or-take, get_or-replicate, length-replicate}
use Rattle.std.proofs.lemmas.List.{length-set, get_or_past, length-take-le, ext_get_or}
use Rattle.ideal_tri.specs.Labels.{inverse, edge_of, with_sign_of}
use Rattle.ideal_tri.specs.Triangulations.{IsTriangulation, IsConnected, IsLabel, edge_count, next}
use Rattle.ideal_tri.specs.Relabellings.{image_of, IsRelabelling}
use Rattle.ideal_tri.specs.LabelLaws.{LabelLaws}
use Rattle.ideal_tri.specs.SurfaceLaws.{SurfaceLaws}
use Rattle.ideal_tri.specs.BijectionLaws.{BijectionLaws}
use Rattle.ideal_tri.specs.RelabellingLaws.{RelabellingLaws}
use Rattle.relabel.specs.Relabellings.{IsTheOne, NoneTakes}
use Rattle.relabel.specs.inside.Forced.{IsKnown, IsOpen, IsClosed, IsForcedList}
use Rattle.relabel.proofs.Connected.{holds_of_all}

-- all relabellings that take x to y take the labels with known images to these
pub record IsForced (from to : List (List ℤ)) (x y : ℤ) (images : List ℤ) (known : List Bool) : Type 0 where
  pub start : IsKnown known (edge_of x)
  pub takes : image_of images x ≡ y
  pub labels : (e : ℕ) → IsKnown known e → IsLabel to (get_or images e (pos 0))
  pub forced : (others : List ℤ) → IsRelabelling from to others → image_of others x ≡ y → (e : ℕ) → IsKnown known e
      → get_or others e (pos 0) ≡ get_or images e (pos 0)

-- images with one entry at the edge of x alike take x to the same label
image_at : (images others : List ℤ) (x : ℤ) → get_or images (edge_of x) (pos 0) ≡ get_or others (edge_of x) (pos 0)
    → image_of images x ≡ image_of others x
image_at images others (pos n) e = e
image_at images others (negsuc n) e = ap inverse e

-- an edge known after one more is known, is that one or was known
known_after : (known : List Bool) (n e : ℕ) → IsKnown (set known n true) e → (n ≡ e) ⊎ IsKnown known e
known_after known n e h =
    elim (cases_eq n e) [
      | inl same ↦ inl same
      | inr apart ↦ inr (sym (get_or-set_other known n e true false (λ s. apart (sym s))) ∙ h)
    ]

known_still : (known : List Bool) (n e : ℕ) → n < length known → IsKnown known e → IsKnown (set known n true) e
known_still known n e below h =
    elim (cases_eq n e) [
      | inl same ↦ subst (λ (d : ℕ). get_or (set known n true) d false ≡ true) same
          (get_or-set_same known n true false below)
      | inr apart ↦ get_or-set_other known n e true false (λ s. apart (sym s)) ∙ h
    ]

-- ---- the two tables

none_known : (e : ℕ) → get_or (replicate 48 false) e false ≡ false
none_known e =
    elim (cases_lt e 48) [
      | inl l ↦ get_or-replicate 48 e false false l
      | inr g ↦ get_or_past (replicate 48 false) e false (omega (arith, length-replicate 48 false))
    ]

-- the tables have room, and what they say is forced
pub record AreTables (from to : List (List ℤ)) (x y : ℤ) (images : List ℤ) (known : List Bool) : Type 0 where
  pub images_room : length images ≡ 48
  pub known_room : length known ≡ 48
  pub forced : IsForced from to x y images known

-- one more known image leaves fewer unknown
fewer_unknown : (known : List Bool) (n : ℕ) → n < length known → get_or known n false ≡ false
    → count_by not (set known n true) < count_by not known
fewer_unknown known n below unknown =
    let one : ◌≡◌ {A = ℕ} (cond (not (get_or known n false)) 1 0) 1 = ap (λ (b : Bool). cond (not b) 1 0) unknown in
    omega (arith, sum_by-set (λ (b : Bool). cond (not b) 1 0) known n true false below)

pub tables_shrink : (from : List (List ℤ)) (s t : ℤ) (known known_later : List Bool) → length known ≡ 48
    → edge_of t < 48 → IsOpen from known s
    → t ≡ next from s → known_later ≡ set known (edge_of t) true → count_by not known_later < count_by not known
tables_shrink from s t known known_later room below open_at t_is known_is =
    subst (λ (z : List Bool). count_by not z < count_by not known) (sym known_is)
    (fewer_unknown known (edge_of t) (omega arith)
    (ap (λ (p : ℤ). get_or known (edge_of p) false) t_is ∙ open_at.after))

module _ (labels : LabelLaws) (surfaces : SurfaceLaws) (bijections : BijectionLaws)
    (relabellings : RelabellingLaws) where
  -- ---- one more image

  -- the image of x, from that of its edge's first label
  image_from_first : (images : List ℤ) (x y : ℤ) → get_or images (edge_of x) (pos 0) ≡ with_sign_of x y
      → image_of images x ≡ y
  image_from_first images x y e = bijections.is images x ∙ ap (with_sign_of x) e ∙ labels.signed_twice x y

  first_from_image : (images : List ℤ) (x y : ℤ) → image_of images x ≡ y
      → get_or images (edge_of x) (pos 0) ≡ with_sign_of x y
  first_from_image images x y e =
      sym (labels.signed_twice x (get_or images (edge_of x) (pos 0)))
      ∙ ap (with_sign_of x) (sym (bijections.is images x) ∙ e)

  -- a known image is a label
  pub known_image : (from to : List (List ℤ)) (x y : ℤ) (images : List ℤ) (known : List Bool) (s : ℤ)
      → IsForced from to x y images known → IsKnown known (edge_of s) → IsLabel to (image_of images s)
  known_image from to x y images known s h here =
      subst (λ (m : ℕ). m < edge_count to) (sym (bijections.edge images s)) (h.labels (edge_of s) here)

  forced_start : (from to : List (List ℤ)) (x y : ℤ) (images : List ℤ) (known : List Bool) → IsLabel to y
      → edge_of x < length images → edge_of x < length known → ((e : ℕ) → get_or known e false ≡ false)
      → IsForced from to x y (set images (edge_of x) (with_sign_of x y)) (set known (edge_of x) true)
  forced_start from to x y images known y_label room known_room none = record {
    start = get_or-set_same known (edge_of x) true false known_room;
    takes = image_from_first (set images (edge_of x) (with_sign_of x y)) x y here;
    labels = λ e k. subst (λ (d : ℕ). IsLabel to (get_or (set images (edge_of x) (with_sign_of x y)) d (pos 0)))
        (only e k) label;
    forced = λ others h takes e k.
        subst (λ (d : ℕ). get_or others d (pos 0) ≡ get_or (set images (edge_of x) (with_sign_of x y)) d (pos 0))
        (only e k)
        (first_from_image others x y takes ∙ sym here);
  }
    where
      here : get_or (set images (edge_of x) (with_sign_of x y)) (edge_of x) (pos 0) ≡ with_sign_of x y
      here = get_or-set_same images (edge_of x) (with_sign_of x y) (pos 0) room

      label : IsLabel to (get_or (set images (edge_of x) (with_sign_of x y)) (edge_of x) (pos 0))
      label = subst (IsLabel to) (sym here)
          (subst (λ (n : ℕ). n < edge_count to) (sym (labels.signed_edge x y)) y_label)

      only : (e : ℕ) → IsKnown (set known (edge_of x) true) e → edge_of x ≡ e
      only e k =
          elim (known_after known (edge_of x) e k) [
            | inl same ↦ same
            | inr before ↦ absurd (true≢false (sym before ∙ none e))
          ]

  forced_more : (from to : List (List ℤ)) (x y : ℤ) (images : List ℤ) (known : List Bool) (s : ℤ) → IsTriangulation from
      → IsTriangulation to
      → IsForced from to x y images known → IsLabel from s → IsOpen from known s
      → edge_of (next from s) < length images → edge_of (next from s) < length known
      → IsForced from to x y
      (set images (edge_of (next from s)) (with_sign_of (next from s) (next to (image_of images s))))
      (set known (edge_of (next from s)) true)
  forced_more from to x y images known s from_is to_is h s_label open_at room known_room = record {
    start = known_still known n (edge_of x) known_room h.start;
    takes = image_at (set images n v) images x (kept (edge_of x) h.start) ∙ h.takes;
    labels = λ e k.
        elim (known_after known n e k) [
          | inl same ↦ subst (λ (d : ℕ). IsLabel to (get_or (set images n v) d (pos 0))) same
              (subst (IsLabel to) (sym here) v_label)
          | inr before ↦ subst (IsLabel to) (sym (kept e before)) (h.labels e before)
        ];
    forced = λ others r takes e k.
        elim (known_after known n e k) [
          | inl same ↦
              subst (λ (d : ℕ). get_or others d (pos 0) ≡ get_or (set images n v) d (pos 0)) same
              (first_from_image others (next from s) (next to (image_of images s))
              (sym (relabellings.next from to others s from_is to_is r s_label)
              ∙ ap (next to) (image_at others images s (h.forced others r takes (edge_of s) open_at.here)))
              ∙ sym here)
          | inr before ↦ h.forced others r takes e before ∙ sym (kept e before)
        ];
  }
    where
      n : ℕ
      n = edge_of (next from s)

      v : ℤ
      v = with_sign_of (next from s) (next to (image_of images s))

      here : get_or (set images (edge_of (next from s)) (with_sign_of (next from s) (next to (image_of images s))))
          (edge_of (next from s)) (pos 0) ≡ with_sign_of (next from s) (next to (image_of images s))
      here = get_or-set_same images n v (pos 0) room

      apart : (e : ℕ) → IsKnown known e → e ≢ edge_of (next from s)
      apart e k same = true≢false (sym k ∙ ap (λ (d : ℕ). get_or known d false) same ∙ open_at.after)

      kept : (e : ℕ) → IsKnown known e
          → get_or (set images (edge_of (next from s)) (with_sign_of (next from s) (next to (image_of images s)))) e
          (pos 0) ≡ get_or images e (pos 0)
      kept e k = get_or-set_other images n e v (pos 0) (apart e k)

      v_label : IsLabel to (with_sign_of (next from s) (next to (image_of images s)))
      v_label =
          subst (λ (m : ℕ). m < edge_count to) (sym (labels.signed_edge (next from s) (next to (image_of images s))))
          ((surfaces.triangles to to_is).label (image_of images s)
          (known_image from to x y images known s h open_at.here))

  pub forced_list : (from to : List (List ℤ)) (x y : ℤ) (images : List ℤ) (known : List Bool) → IsTriangulation from
      → IsConnected from → IsLabel from x
      → IsForced from to x y images known → IsClosed from known → IsForcedList from to x y images
  forced_list from to x y images known from_is connected label h closed others r takes e below =
      h.forced others r takes e
      (holds_of_all labels surfaces from from_is (λ z. IsKnown known (edge_of z)) closed
      (λ z k. subst (IsKnown known) (sym (labels.edge z)) k) connected x label h.start (pos e) below)

  pub tables_start : (from to : List (List ℤ)) (x y : ℤ) (images : List ℤ) (known : List Bool) → IsLabel to y
      → edge_of x < 48
      → images ≡ set (replicate 48 (pos 0)) (edge_of x) (with_sign_of x y) → known
      ≡ set (replicate 48 false) (edge_of x) true
      → AreTables from to x y images known
  tables_start from to x y images known y_label below images_is known_is = record {
    images_room = ap length images_is ∙ length-set (replicate 48 (pos 0)) (edge_of x) (with_sign_of x y)
        ∙ length-replicate 48 (pos 0);
    known_room = ap length known_is ∙ length-set (replicate 48 false) (edge_of x) true ∙ length-replicate 48 false;
    forced = subst (λ (z : List ℤ). IsForced from to x y z known) (sym images_is)
        (subst (IsForced from to x y (set (replicate 48 (pos 0)) (edge_of x) (with_sign_of x y))) (sym known_is)
        (forced_start from to x y (replicate 48 (pos 0)) (replicate 48 false) y_label
        (omega (arith, length-replicate 48 (pos 0))) (omega (arith, length-replicate 48 false)) none_known));
  }

  pub tables_more : (from to : List (List ℤ)) (x y s t v : ℤ) (images later : List ℤ) (known known_later : List Bool)
      → IsTriangulation from → IsTriangulation to
      → AreTables from to x y images known → IsLabel from s → IsOpen from known s → edge_count from ≤ 48
      → t ≡ next from s → v ≡ next to (image_of images s)
      → later ≡ set images (edge_of t) (with_sign_of t v) → known_later ≡ set known (edge_of t) true
      → AreTables from to x y later known_later
  tables_more from to x y s t v images later known known_later from_is to_is h label open_at few t_is v_is later_is
      known_is =
      let below : edge_of (next from s) < edge_count from = (surfaces.triangles from from_is).label s label in
      let images_at : later ≡ set images (edge_of (next from s))
      (with_sign_of (next from s) (next to (image_of images s))) =
      later_is ∙ ap₂ (λ (p : ℤ) (q : ℤ). set images (edge_of p) (with_sign_of p q)) t_is v_is in
      let known_at : known_later ≡ set known (edge_of (next from s)) true = known_is
      ∙ ap (λ (p : ℤ). set known (edge_of p) true) t_is in
      record {
        images_room = ap length later_is ∙ length-set images (edge_of t) (with_sign_of t v) ∙ h.images_room;
        known_room = ap length known_is ∙ length-set known (edge_of t) true ∙ h.known_room;
        forced = subst (λ (z : List ℤ). IsForced from to x y z known_later) (sym images_at)
            (subst (IsForced from to x y
            (set images (edge_of (next from s)) (with_sign_of (next from s) (next to (image_of images s)))))
            (sym known_at)
            (forced_more from to x y images known s from_is to_is h.forced label open_at (omega (arith, h.images_room))
            (omega (arith, h.known_room))));
      }

-- ---- the list is the one

same_as_forced : (from to : List (List ℤ)) (x y : ℤ) (images : List ℤ) (n : ℕ) → IsForcedList from to x y images
    → n ≡ edge_count from
    → n ≤ length images → (others : List ℤ) → IsRelabelling from to others → image_of others x ≡ y → others
    ≡ take n images
same_as_forced from to x y images n forced is_n room others r takes =
    let long : length others ≡ edge_count from = r.one_per_edge in
    let short : length (take n images) ≡ n = length-take-le n images room in
    ext_get_or (pos 0) others (take n images) (omega arith)
    (λ e below. forced others r takes e (omega arith) ∙ sym (get_or-take n images e (pos 0) (omega arith)))

pub the_one : (from to : List (List ℤ)) (x y : ℤ) (images list : List ℤ) (n : ℕ) → IsForcedList from to x y images
    → image_of images x ≡ y
    → IsLabel from x → n ≡ edge_count from → n ≤ length images → IsRelabelling from to (take n images) → list
    ≡ take n images
    → IsTheOne from to x y list
the_one from to x y images list n forced takes label is_n room r is =
    subst (IsTheOne from to x y) (sym is)
    record {
      relabels = r;
      takes = image_at (take n images) images x (get_or-take n images (edge_of x) (pos 0) (omega arith)) ∙ takes;
      only = same_as_forced from to x y images n forced is_n room;
    }

pub none_such : (from to : List (List ℤ)) (x y : ℤ) (images : List ℤ) (n : ℕ) → IsForcedList from to x y images
    → n ≡ edge_count from → n ≤ length images → ¬ IsRelabelling from to (take n images) → NoneTakes from to x y
none_such from to x y images n forced is_n room refused others r takes =
    refused (subst (IsRelabelling from to) (same_as_forced from to x y images n forced is_n room others r takes) r)
