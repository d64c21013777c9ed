-- The least word along a curve: it is compared with each of its rotations and of those of the way back.
use Rattle.std.proofs.Common.{ℕ, ℤ, List, [], ◌∷◌, ◌++◌, ◌≡◌, ◌⊎◌, inl, inr, ◌+◌, ◌-◌, ◌<◌, ◌≤◌, refl, sym, ◌∙◌, ap}
use Rattle.std.proofs.Common.{subst, arith, length, get_or, take, drop, length-append}
use Rattle.std.proofs.lemmas.Bool.{cases_lt}
use Rattle.std.proofs.lemmas.List.{append-nil, take-append-drop, take_at, drop_at, drop_more}
use Rattle.ideal_tri.specs.Curves.{IsSameCurve}
use Rattle.ideal_tri.specs.LabelLaws.{OrderLaws}
use Rattle.ideal_tri.specs.Labels.{inverse}
use Rattle.ideal_tri.specs.WordLaws.{WordLaws}
use Rattle.ideal_tri.specs.Words.{inverse_word, IsRotation}
use Rattle.multicurve_cert.specs.Cycles.{IsWordBefore, IsBefore}
use Rattle.multicurve_cert.specs.inside.CycleParts.{IsLeast}
use Rattle.multicurve_cert.proofs.WordOrder.{before_apart, before_other, before_or_after}

-- ---- rotations

-- the word begun at place k
abbrev pub turned : ℕ → List ℤ → List ℤ
turned k w = drop k w ++ take k w

pub is_rotation : (w : List ℤ) (k : ℕ) → IsRotation w (turned k w)
is_rotation w k = (take k w, drop k w, sym (take-append-drop k w), refl)

-- each rotation of a word that is not empty begins at some place in it
pub place_of : (v w : List ℤ) → IsRotation v w → 0 < length v → (k : ℕ) × (k < length v) × (w ≡ turned k v)
place_of v w (p, [], v_is, w_is) some = (0, some, w_is ∙ sym (append-nil p) ∙ sym v_is ∙ sym (append-nil v))
place_of v w (p, (x ∷ xs), v_is, w_is) some =
    let long : length v ≡ length p + length (x ∷ xs) = ap length v_is ∙ length-append p (x ∷ xs) in (
      length p,
      omega arith,
      w_is
          ∙ ap (λ (z : List ℤ). z ++ p) (sym (drop_at p (x ∷ xs) (length p) refl))
          ∙ ap (λ (z : List ℤ). drop (length p) (p ++ (x ∷ xs)) ++ z) (sym (take_at p (x ∷ xs) (length p) refl))
          ∙ ap (turned (length p)) (sym v_is),
    )

-- ---- the way back, letter by letter

pub inverse_more : (w : List ℤ) (n k : ℕ) (x : ℤ) → n ≡ length w → k < n → x ≡ get_or w (n - 1 - k) x
    → inverse_word (drop (n - k) w) ++ (inverse x ∷ []) ≡ inverse_word (drop (n - (k + 1)) w)
inverse_more w n k x is_n inside is_x =
    let place : n - 1 - k ≡ n - (k + 1) = omega arith in
    let after : n - k ≡ (n - (k + 1)) + 1 = omega arith in
    ap (λ (i : ℕ). inverse_word (drop i w) ++ (inverse x ∷ [])) after
    ∙ ap (λ (z : ℤ). inverse_word (drop ((n - (k + 1)) + 1) w) ++ (inverse z ∷ [])) (is_x
    ∙ ap (λ (i : ℕ). get_or w i x) place)
    ∙ ap inverse_word (sym (drop_more w (n - (k + 1)) x (omega arith)))

-- ---- the comparisons: with the first k rotations both ways

pub record NoneBefore (w back : List ℤ) (k : ℕ) : Type 0 where
  pub on : (j : ℕ) → j < k → IsWordBefore (turned j w) w → ⊥
  pub return : (j : ℕ) → j < k → IsWordBefore (turned j back) w → ⊥

-- with one more rotation each way
pub none_more : (w back : List ℤ) (k : ℕ) → NoneBefore w back k → (IsWordBefore (turned k w) w → ⊥)
    → (IsWordBefore (turned k back) w → ⊥) → NoneBefore w back (k + 1)
none_more w back k none on return = record {
  on = λ j below. up_to w j (cases_lt j k) (none.on j) on (omega arith);
  return = λ j below. up_to back j (cases_lt j k) (none.return j) return (omega arith);
}
  where
    up_to : (v : List ℤ) (j : ℕ) → (j < k) ⊎ (k ≤ j) → (j < k → IsWordBefore (turned j v) w → ⊥)
        → (IsWordBefore (turned k v) w → ⊥) → j ≤ k → IsWordBefore (turned j v) w → ⊥
    up_to v j (inl less) before here within = before less
    up_to v j (inr most) before here within =
        let same : k ≡ j = omega arith in subst (λ (i : ℕ). IsWordBefore (turned i v) w → ⊥) same here

pub is_least_from_none : WordLaws → OrderLaws → (w back : List ℤ) (n : ℕ) → NoneBefore w back n → length w ≤ n
    → 0 < length w → back ≡ inverse_word w → IsLeast w
is_least_from_none words order w back n none all some is_back v (inl r) =
    let (k, inside, is_v) = place_of w v r some in
    let as_long : length w ≡ length v = words.rotations.as_long w v r in
    elim (before_or_after order w v as_long) as (λ _. (w ≡ v) ⊎ IsBefore w v) [
      | inl same ↦ inl same
      | inr (inl before) ↦ inr (inr (as_long, before))
      | inr (inr after) ↦ absurd (none.on k (omega arith) (subst (λ (z : List ℤ). IsWordBefore z w) is_v after))
    ]
is_least_from_none words order w back n none all some is_back v (inr r) =
    let back_long : length (inverse_word w) ≡ length w = words.inverses.as_long w in
    let as_long : length w ≡ length v = sym back_long ∙ words.rotations.as_long (inverse_word w) v r in
    let (k, inside, is_v) = place_of (inverse_word w) v r (omega arith) in
    elim (before_or_after order w v as_long) as (λ _. (w ≡ v) ⊎ IsBefore w v) [
      | inl same ↦ inl same
      | inr (inl before) ↦ inr (inr (as_long, before))
      | inr (inr after) ↦
          absurd (none.return k (omega arith)
          (subst (λ (z : List ℤ). IsWordBefore z w) (is_v ∙ ap (turned k) (sym is_back)) after))
    ]

-- ---- a word before it

pub not_least : (w v : List ℤ) → IsLeast w → IsSameCurve w v → length v ≡ length w → IsWordBefore v w → ⊥
not_least w v least same as_long before =
    elim (least v same) as (λ _. ⊥) [
      | inl e ↦ before_other v w before (sym e)
      | inr (inl shorter) ↦ omega arith
      | inr (inr h) ↦ before_apart v w before h.1
    ]

pub not_least_on : WordLaws → (w v : List ℤ) (k : ℕ) → v ≡ turned k w → IsWordBefore v w → IsLeast w → ⊥
not_least_on words w v k is_v before least =
    let r : IsRotation w v = subst (λ (z : List ℤ). IsRotation w z) (sym is_v) (is_rotation w k) in
    not_least w v least (inl r) (sym (words.rotations.as_long w v r)) before

pub not_least_back : WordLaws → (w back v : List ℤ) (k : ℕ) → back ≡ inverse_word w → v ≡ turned k back
    → IsWordBefore v w → IsLeast w → ⊥
not_least_back words w back v k is_back is_v before least =
    let r : IsRotation (inverse_word w) v =
    subst (λ (z : List ℤ). IsRotation z v) is_back
    (subst (λ (z : List ℤ). IsRotation back z) (sym is_v) (is_rotation back k)) in
    not_least w v least (inr r) (sym (words.rotations.as_long (inverse_word w) v r) ∙ words.inverses.as_long w) before

pub turned_long : WordLaws → (w v : List ℤ) (k : ℕ) → v ≡ turned k w → length v ≡ length w
turned_long words w v k is_v = ap length is_v ∙ sym (words.rotations.as_long w (turned k w) (is_rotation w k))
