-- Rotations of lists, the test that finds them, and closed words up to rotation and direction.
--
-- A rotation is some number of steps in which the first element goes to the end. So what a step keeps, a rotation
-- keeps, and rotations are closed under composition; the steps that are left lead back. The test tries all splits of
-- the list, from the first place on, and finds v exactly where some split gives v. Two words run along one curve where
-- one is a rotation of the other or of its way back. The way back of a rotation is a rotation of the way back, so this
-- is an equivalence too, and counts of letters that don't see the direction are the same for words of one curve.
use Rattle.std.proofs.Common.{ℕ, ℤ, Bool, true, false, List, [], ◌∷◌, ◌++◌, ◌||◌, ◌≡◌, ◌⊎◌, ◌↔◌, ◌+◌, inl, inr, refl}
use Rattle.std.proofs.Common.{sym, ◌∙◌, ap, subst, append_assoc, arith, length, length-append, cond, map}
use Rattle.std.specs.Cmp.Rules.{signed_items}
use Rattle.std.specs.List.{All, count_by}
use Rattle.std.proofs.lemmas.List.{append-nil, map-append}
use Rattle.std.proofs.lemmas.List.Elements.{All-nil, All-cons, All-head, All-tail, All-append}
use Rattle.std.proofs.lemmas.List.Sums.{sum_by-append, sum_by-cons, sum_by_push}
use Rattle.ideal_tri.specs.Labels.{inverse}
use Rattle.ideal_tri.specs.Words.{inverse_word, IsRotation}
use Rattle.ideal_tri.specs.Curves.{IsSameCurve, same_word, turns_into, is_rotation, is_same_curve}
use Rattle.ideal_tri.proofs.Reduction.{inverse_word-append, inverse_word-inverse_word}

-- ---- rotations

pub Rotation-refl : {A : Type 0} → (u : List A) → IsRotation u u
Rotation-refl u = ([], u, refl, sym (append-nil u))

pub Rotation-same : {A : Type 0} → (u v : List A) → u ≡ v → IsRotation u v
Rotation-same u v e = subst (IsRotation u) e (Rotation-refl u)

pub Rotation-sym : {A : Type 0} → (u v : List A) → IsRotation u v → IsRotation v u
Rotation-sym u v (a, b, e, f) = (b, a, f, e)

-- what stays when the first element goes to the end, stays in rotations
pub by_steps : {A : Type 0} → (P : List A → Type 0) → ((x : A) (w : List A) → P (x ∷ w) → P (w ++ (x ∷ [])))
    → (a b : List A) → P (a ++ b) → P (b ++ a)
by_steps P step [] b h = subst P (sym (append-nil b)) h
by_steps P step (x ∷ a) b h =
    subst P (append_assoc b (x ∷ []) a)
    (by_steps P step a (b ++ (x ∷ [])) (subst P (append_assoc a b (x ∷ [])) (step x (a ++ b) h)))

pub Rotation-steps : {A : Type 0} → (P : List A → Type 0) → ((x : A) (w : List A) → P (x ∷ w) → P (w ++ (x ∷ [])))
    → (u v : List A) → IsRotation u v → P u → P v
Rotation-steps P step u v (a, b, e, f) h = subst P (sym f) (by_steps P step a b (subst P e h))

-- one more step
Rotation-step : {A : Type 0} → (u : List A) (x : A) (w : List A) → IsRotation u (x ∷ w) → IsRotation u (w ++ (x ∷ []))
Rotation-step {A = A} u x w (a, [], e, f) = (
  x ∷ [],
  w,
  e ∙ append-nil a ∙ sym f,
  refl,
)
Rotation-step {A = A} u x w (a, (y ∷ b), e, f) =
    let head : x ≡ y = cc in
    let tail : w ≡ b ++ a = cc in (
      a ++ (x ∷ []),
      b,
      e ∙ ap (λ (z : A). a ++ (z ∷ b)) (sym head) ∙ sym (append_assoc a (x ∷ []) b),
      ap (λ (z : List A). z ++ (x ∷ [])) tail ∙ append_assoc b a (x ∷ []),
    )

pub Rotation-trans : {A : Type 0} → (u v w : List A) → IsRotation u v → IsRotation v w → IsRotation u w
Rotation-trans u v w r s = Rotation-steps (IsRotation u) (Rotation-step u) v w s r

pub Rotation-length : {A : Type 0} → (u v : List A) → IsRotation u v → length u ≡ length v
Rotation-length u v (a, b, e, f) = omega (arith, ap length e, ap length f, length-append a b, length-append b a)

pub Rotation-inverse_word : (u v : List ℤ) → IsRotation u v → IsRotation (inverse_word u) (inverse_word v)
Rotation-inverse_word u v (a, b, e, f) = (
  inverse_word b,
  inverse_word a,
  ap inverse_word e ∙ inverse_word-append a b,
  ap inverse_word f ∙ inverse_word-append b a,
)

pub Rotation-map : {A B : Type 0} → (f : A → B) (u v : List A) → IsRotation u v → IsRotation (map f u) (map f v)
Rotation-map f u v (a, b, e, g) = (
  map f a,
  map f b,
  ap (map f) e ∙ map-append f a b,
  ap (map f) g ∙ map-append f b a,
)

-- what holds of each element of a list holds of each element of its rotations
pub Rotation-keeps : {A : Type 0} → (P : A → Type 0) (u v : List A) → IsRotation u v → All P u → All P v
Rotation-keeps P u v r h =
    Rotation-steps (All P)
    (λ x w k. All-append P w (x ∷ []) (All-tail P x w k) (All-cons P x [] (All-head P x w k) (All-nil P))) u v r h

pub Rotation-count_by : {A : Type 0} → (p : A → Bool) (u v : List A) → IsRotation u v → count_by p u ≡ count_by p v
Rotation-count_by p u v (a, b, e, f) =
    ap (count_by p) e
    ∙ sum_by-append (λ x. cond (p x) 1 0) a b
    ∙ omega arith
    ∙ sym (sum_by-append (λ x. cond (p x) 1 0) b a)
    ∙ ap (count_by p) (sym f)

-- ---- the test

same_word-true : (u v : List ℤ) → same_word u v ≡ true → u ≡ v
same_word-true u v e = (signed_items u v).0 e

same_word-same : (u v : List ℤ) → u ≡ v → same_word u v ≡ true
same_word-same u v e = (signed_items u v).1 e

or_cases : (a b : Bool) → (a || b) ≡ true → (a ≡ true) ⊎ (b ≡ true)
or_cases true b e = inl refl
or_cases false b e = inr e

or_left : (a b : Bool) → a ≡ true → (a || b) ≡ true
or_left a b e = ap (λ (z : Bool). z || b) e

or_right : (a b : Bool) → b ≡ true → (a || b) ≡ true
or_right true b e = refl
or_right false b e = e

-- a split that the test finds
turns_into-sound : (front rest v : List ℤ) → turns_into front rest v ≡ true → IsRotation (front ++ rest) v
turns_into-sound front [] v e = Rotation-same (front ++ []) v (append-nil front ∙ same_word-true front v e)
turns_into-sound front (x ∷ rest) v e =
    elim (or_cases (same_word ((x ∷ rest) ++ front) v) (turns_into (front ++ (x ∷ [])) rest v) e) [
      | inl here ↦ (front, x ∷ rest, refl, sym (same_word-true ((x ∷ rest) ++ front) v here))
      | inr later ↦
          subst (λ (z : List ℤ). IsRotation z v) (append_assoc front (x ∷ []) rest)
          (turns_into-sound (front ++ (x ∷ [])) rest v later)
    ]

-- the split at the first place that is tried
turns_into-here : (front rest v : List ℤ) → rest ++ front ≡ v → turns_into front rest v ≡ true
turns_into-here front [] v e = same_word-same front v e
turns_into-here front (x ∷ rest) v e =
    or_left (same_word ((x ∷ rest) ++ front) v) (turns_into (front ++ (x ∷ [])) rest v)
    (same_word-same ((x ∷ rest) ++ front) v e)

-- the test finds each split
turns_into-complete : (front a b v : List ℤ) → b ++ (front ++ a) ≡ v → turns_into front (a ++ b) v ≡ true
turns_into-complete front [] b v e =
    turns_into-here front b v (ap (λ (z : List ℤ). b ++ z) (sym (append-nil front)) ∙ e)
turns_into-complete front (x ∷ a) b v e =
    or_right (same_word ((x ∷ (a ++ b)) ++ front) v) (turns_into (front ++ (x ∷ [])) (a ++ b) v)
    (turns_into-complete (front ++ (x ∷ [])) a b v (ap (λ (z : List ℤ). b ++ z) (append_assoc front (x ∷ []) a) ∙ e))

pub is_rotation-sound : (u v : List ℤ) → is_rotation u v ≡ true → IsRotation u v
is_rotation-sound u v e = turns_into-sound [] u v e

pub is_rotation-complete : (u v : List ℤ) → IsRotation u v → is_rotation u v ≡ true
is_rotation-complete u v (a, b, e, f) =
    ap (λ (z : List ℤ). turns_into [] z v) e ∙ turns_into-complete [] a b v (sym f)

pub is_rotation-test : (u v : List ℤ) → (is_rotation u v ≡ true) ↔ IsRotation u v
is_rotation-test u v = (is_rotation-sound u v, is_rotation-complete u v)

-- ---- curves

-- the way back may stand on the other side
pub Rotation-turned : (u v : List ℤ) → IsRotation (inverse_word u) v → IsRotation u (inverse_word v)
Rotation-turned u v r =
    subst (λ (z : List ℤ). IsRotation z (inverse_word v)) (inverse_word-inverse_word u)
    (Rotation-inverse_word (inverse_word u) v r)

pub SameCurve-refl : (u : List ℤ) → IsSameCurve u u
SameCurve-refl u = inl (Rotation-refl u)

pub SameCurve-sym : (u v : List ℤ) → IsSameCurve u v → IsSameCurve v u
SameCurve-sym u v (inl r) = inl (Rotation-sym u v r)
SameCurve-sym u v (inr r) =
    inr (Rotation-sym u (inverse_word v) (Rotation-turned u v r))

pub SameCurve-trans : (u v w : List ℤ) → IsSameCurve u v → IsSameCurve v w → IsSameCurve u w
SameCurve-trans u v w (inl r) (inl s) = inl (Rotation-trans u v w r s)
SameCurve-trans u v w (inl r) (inr s) =
    inr (Rotation-trans (inverse_word u) (inverse_word v) w (Rotation-inverse_word u v r) s)
SameCurve-trans u v w (inr r) (inl s) = inr (Rotation-trans (inverse_word u) v w r s)
SameCurve-trans u v w (inr r) (inr s) = inl (Rotation-trans u (inverse_word v) w (Rotation-turned u v r) s)

pub is_same_curve-sound : (u v : List ℤ) → is_same_curve u v ≡ true → IsSameCurve u v
is_same_curve-sound u v e =
    elim (or_cases (is_rotation u v) (is_rotation (inverse_word u) v) e) [
      | inl same ↦ inl (is_rotation-sound u v same)
      | inr back ↦ inr (is_rotation-sound (inverse_word u) v back)
    ]

pub is_same_curve-complete : (u v : List ℤ) → IsSameCurve u v → is_same_curve u v ≡ true
is_same_curve-complete u v (inl r) =
    or_left (is_rotation u v) (is_rotation (inverse_word u) v) (is_rotation-complete u v r)
is_same_curve-complete u v (inr r) =
    or_right (is_rotation u v) (is_rotation (inverse_word u) v) (is_rotation-complete (inverse_word u) v r)

pub is_same_curve-test : (u v : List ℤ) → (is_same_curve u v ≡ true) ↔ IsSameCurve u v
is_same_curve-test u v = (is_same_curve-sound u v, is_same_curve-complete u v)

pub SameCurve-inverse_word : (u : List ℤ) → IsSameCurve u (inverse_word u)
SameCurve-inverse_word u = inr (Rotation-refl (inverse_word u))

-- the test does not tell two words of one curve apart
pub is_same_curve-respects : (c u v : List ℤ) → IsSameCurve u v → is_same_curve c u ≡ is_same_curve c v
is_same_curve-respects c u v h =
    equal_truths (is_same_curve c u) (is_same_curve c v)
    (λ e. is_same_curve-complete c v (SameCurve-trans c u v (is_same_curve-sound c u e) h))
    (λ e. is_same_curve-complete c u (SameCurve-trans c v u (is_same_curve-sound c v e) (SameCurve-sym u v h)))
  where
    equal_truths : (a b : Bool) → (a ≡ true → b ≡ true) → (b ≡ true → a ≡ true) → a ≡ b
    equal_truths true b f g = sym (f refl)
    equal_truths false true f g = g refl
    equal_truths false false f g = refl

-- the way back has the same number of letters with a property that does not see the direction
pub count_by-inverse_word : (p : ℤ → Bool) → ((x : ℤ) → p (inverse x) ≡ p x) → (w : List ℤ)
    → count_by p (inverse_word w) ≡ count_by p w
count_by-inverse_word p both [] = refl
count_by-inverse_word p both (x ∷ w) =
    sum_by_push (λ y. cond (p y) 1 0) (inverse_word w) (inverse x)
    ∙ ap (λ (b : Bool). count_by p (inverse_word w) + cond b 1 0) (both x)
    ∙ ap (λ (n : ℕ). n + cond (p x) 1 0) (count_by-inverse_word p both w)
    ∙ omega arith
    ∙ sym (sum_by-cons (λ y. cond (p y) 1 0) x w)

pub SameCurve-count_by : (p : ℤ → Bool) → ((x : ℤ) → p (inverse x) ≡ p x) → (u v : List ℤ) → IsSameCurve u v
    → count_by p u ≡ count_by p v
SameCurve-count_by p both u v (inl r) = Rotation-count_by p u v r
SameCurve-count_by p both u v (inr r) = sym (count_by-inverse_word p both u) ∙ Rotation-count_by p (inverse_word u) v r
