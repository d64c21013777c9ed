-- A reduced word under a flip. The letters of other edges than those of the sides b and d stay as they are, so runs of
-- them are their own images.
use Rattle.std.proofs.Common.{ℕ, ℤ, List, [], ◌∷◌, ◌++◌, ◌≡◌, ◌+◌, ◌-◌, ◌<◌, ◌≤◌, inl, inr, refl, sym, ◌∙◌, ap}
use Rattle.std.proofs.Common.{subst, append_assoc, arith, length, take, drop, get_or, if◌then◌else◌, Bool}
use Rattle.std.specs.List.{flat_map, slice_range}
use Rattle.std.specs.Ordering.{int_eq}
use Rattle.std.proofs.lemmas.List.{append-nil, take_all, take_more, get_or-drop, length-drop, take-append-drop}
use Rattle.ideal_tri.specs.Labels.{inverse, edge_of}
use Rattle.ideal_tri.specs.Words.{inverse_word, IsReduced, reduce}
use Rattle.ideal_tri.specs.LabelLaws.{LabelLaws}
use Rattle.ideal_tri.specs.WordLaws.{ReductionLaws}
use Rattle.tri_atlas.specs.Maps.{flip_image, step_before}
use Rattle.free_groupoid.specs.GroupoidMaps.{reduced_image}
use Rattle.free_groupoid.specs.inside.Images.{IsOnSide}
use Rattle.free_groupoid.proofs.Appending.{Reduces, next, images_on}

-- ---- letters that stay

no_step : LabelLaws → (e b d x : ℤ) → ¬ (IsOnSide b d x) → step_before e b d x ≡ []
no_step l e b d x off =
    ap (λ (t : Bool). if t then e ∷ [] else if int_eq x d then inverse e ∷ [] else [])
    (l.test_other x b (λ h. off (inl (ap edge_of h))))
    ∙ ap (λ (t : Bool). if t then inverse e ∷ [] else []) (l.test_other x d (λ h. off (inr (ap edge_of h))))

turned_off : LabelLaws → (b d x : ℤ) → ¬ (IsOnSide b d x) → ¬ (IsOnSide b d (inverse x))
turned_off l b d x off (inl h) = off (inl (sym (l.edge x) ∙ h))
turned_off l b d x off (inr h) = off (inr (sym (l.edge x) ∙ h))

pub letter_stays : LabelLaws → (e b d x : ℤ) → ¬ (IsOnSide b d x) → flip_image e b d x ≡ x ∷ []
letter_stays l e b d x off =
    ap (λ (w : List ℤ). w ++ (x ∷ inverse_word (step_before e b d (inverse x)))) (no_step l e b d x off)
    ∙ ap (λ (w : List ℤ). x ∷ inverse_word w) (no_step l e b d (inverse x) (turned_off l b d x off))

-- ---- parts of a word

pub part_reduced : ReductionLaws → (w : List ℤ) (m n : ℕ) → IsReduced w → IsReduced (slice_range w m n)
part_reduced r w m n h =
    r.front (take (n - m) (drop m w)) (drop (n - m) (drop m w))
    (subst IsReduced (sym (take-append-drop (n - m) (drop m w)))
    (r.back (take m w) (drop m w) (subst IsReduced (sym (take-append-drop m w)) h)))

part_more : (w : List ℤ) (m n : ℕ) (x : ℤ) → m ≤ n → n < length w → x ≡ get_or w n x
    → slice_range w m (n + 1) ≡ slice_range w m n ++ (x ∷ [])
part_more w m n x ordered inside is_x =
    let long : (n + 1) - m ≡ (n - m) + 1 = omega arith in
    let place : m + (n - m) ≡ n = omega arith in
    ap (λ (k : ℕ). take k (drop m w)) long
    ∙ take_more (drop m w) (n - m) x (omega (arith, length-drop m w))
    ∙ ap (λ (z : ℤ). take (n - m) (drop m w) ++ (z ∷ []))
    (get_or-drop m w (n - m) x ∙ ap (λ (k : ℕ). get_or w k x) place ∙ sym is_x)

no_part : (w : List ℤ) (n : ℕ) → slice_range w n n ≡ []
no_part w n = ap (λ (k : ℕ). take k (drop n w)) (let none : n - n ≡ 0 = omega arith in none)

-- ---- the loop: `moved` is the image of the letters before `start`, and those from there to `i` are their own images

pub record IsRewrittenUpTo (f : ℤ → List ℤ) (w moved : List ℤ) (start i : ℕ) : Type 0 where
  pub ordered : start ≤ i
  pub so_far : Reduces (flat_map f (take start w)) moved
  pub stays : flat_map f (take start w) ++ slice_range w start i ≡ flat_map f (take i w)

-- a letter that stays
pub one_stays : (f : ℤ → List ℤ) (w moved : List ℤ) (start i : ℕ) (x : ℤ) → IsRewrittenUpTo f w moved start i
    → i < length w
    → x ≡ get_or w i x → f x ≡ x ∷ [] → IsRewrittenUpTo f w moved start (i + 1)
one_stays f w moved start i x h inside is_x same =
    let ordered : start ≤ i = h.ordered in
    record {
      ordered = omega arith;
      so_far = h.so_far;
      stays = ap (λ (z : List ℤ). flat_map f (take start w) ++ z) (part_more w start i x ordered inside is_x)
          ∙ sym (append_assoc (flat_map f (take start w)) (slice_range w start i) (x ∷ []))
          ∙ ap (λ (z : List ℤ). z ++ (x ∷ [])) h.stays
          ∙ images_on f w i x (x ∷ []) inside is_x (sym same);
    }

-- the letters that stay are put behind the word
pub run_appended : ReductionLaws → (f : ℤ → List ℤ) (w moved new : List ℤ) (start i : ℕ)
    → IsRewrittenUpTo f w moved start i
    → new ≡ reduce (moved ++ slice_range w start i) → Reduces (flat_map f (take i w)) new
run_appended r f w moved new start i h appended = next r (slice_range w start i) _ _ _ _ h.so_far appended h.stays

-- and then the image of a letter
pub one_changes : ReductionLaws → (f : ℤ → List ℤ) (w moved new last : List ℤ) (start i : ℕ) (x : ℤ)
    → IsRewrittenUpTo f w moved start i
    → i < length w → x ≡ get_or w i x → new ≡ reduce (moved ++ slice_range w start i) → last ≡ reduce (new ++ f x)
    → IsRewrittenUpTo f w last (i + 1) (i + 1)
one_changes r f w moved new last start i x h inside is_x appended pushed = record {
  ordered = omega arith;
  so_far = next r (f x) _ _ _ _ (run_appended r f w moved new start i h appended) pushed
      (images_on f w i x (f x) inside is_x refl);
  stays = ap (λ (z : List ℤ). flat_map f (take (i + 1) w) ++ z) (no_part w (i + 1))
      ∙ append-nil (flat_map f (take (i + 1) w));
}

-- all letters were read, and the last that stay are put behind the word
pub all_rewritten : ReductionLaws → (f : ℤ → List ℤ) (w moved new : List ℤ) (start i : ℕ)
    → IsRewrittenUpTo f w moved start i → i ≤ length w → length w ≤ i
    → new ≡ reduce (moved ++ slice_range w start (length w)) → new ≡ reduced_image f w
all_rewritten r f w moved new start i h within all appended =
    let end : length w ≡ i = omega arith in
    let whole : Reduces (flat_map f (take i w)) new = run_appended r f w moved new start i h (appended
    ∙ ap (λ (k : ℕ). reduce (moved ++ slice_range w start k)) end) in
    whole.value ∙ ap (reduced_image f) (take_all i w all)
