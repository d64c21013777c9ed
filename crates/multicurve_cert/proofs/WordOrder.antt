-- The order of words.
use Rattle.std.proofs.Common.{ℕ, ℤ, List, [], ◌∷◌, ◌++◌, ◌≡◌, ◌≢◌, ◌⊎◌, inl, inr, ◌+◌, ◌<◌, ◌≤◌, refl, sym, ◌∙◌, ap}
use Rattle.std.proofs.Common.{subst, arith, length, get_or, drop, length-drop}
use Rattle.std.proofs.lemmas.Bool.{cases_lt}
use Rattle.std.proofs.Math.Nat.{eq-or-lt_of_le}
use Rattle.ideal_tri.specs.LabelLaws.{OrderLaws}
use Rattle.ideal_tri.specs.Vertices.{rank}
use Rattle.ideal_tri.specs.WordLaws.{LetterLaws}
use Rattle.multicurve_cert.specs.Cycles.{IsWordBefore}

-- ---- a strict order

pub before_apart : (v w : List ℤ) → IsWordBefore v w → IsWordBefore w v → ⊥
before_apart [] [] h k = h
before_apart [] (y ∷ w) h k = k
before_apart (x ∷ v) [] h k = h
before_apart (x ∷ v) (y ∷ w) (inl h) (inl k) = omega arith
before_apart (x ∷ v) (y ∷ w) (inl h) (inr (e, k)) = omega (arith, ap rank e)
before_apart (x ∷ v) (y ∷ w) (inr (e, h)) (inl k) = omega (arith, ap rank e)
before_apart (x ∷ v) (y ∷ w) (inr (e, h)) (inr (f, k)) = before_apart v w h k

pub before_other : (v w : List ℤ) → IsWordBefore v w → v ≢ w
before_other v w h e =
    before_apart v v (subst (λ (z : List ℤ). IsWordBefore v z) (sym e) h) (subst (λ (z : List ℤ). IsWordBefore v z) (sym e) h)

-- of two words of one length, which are not the same, one comes before the other
pub before_or_after : OrderLaws → (v w : List ℤ) → length v ≡ length w
    → (v ≡ w) ⊎ (IsWordBefore v w ⊎ IsWordBefore w v)
before_or_after o [] [] e = inl refl
before_or_after o [] (y ∷ w) e = absurd (omega arith)
before_or_after o (x ∷ v) [] e = absurd (omega arith)
before_or_after o (x ∷ v) (y ∷ w) e =
    elim (cases_lt (rank x) (rank y)) as (λ _. (x ∷ v ≡ y ∷ w) ⊎ (IsWordBefore (x ∷ v) (y ∷ w) ⊎ IsWordBefore (y ∷ w) (x ∷ v))) [
      | inl less ↦ inr (inl (inl less))
      | inr more ↦
          elim (eq-or-lt_of_le more) as (λ _. (x ∷ v ≡ y ∷ w) ⊎ (IsWordBefore (x ∷ v) (y ∷ w) ⊎ IsWordBefore (y ∷ w) (x ∷ v))) [
            | inr greater ↦ inr (inr (inl greater))
            | inl same ↦ on_tails (sym (o.one y x same)) (before_or_after o v w (omega arith))
          ]
    ]
  where
    on_tails : x ≡ y → (v ≡ w) ⊎ (IsWordBefore v w ⊎ IsWordBefore w v)
        → (x ∷ v ≡ y ∷ w) ⊎ (IsWordBefore (x ∷ v) (y ∷ w) ⊎ IsWordBefore (y ∷ w) (x ∷ v))
    on_tails f (inl s) = inl (ap (λ (z : ℤ). z ∷ v) f ∙ ap (λ (z : List ℤ). y ∷ z) s)
    on_tails f (inr (inl h)) = inr (inl (inr (f, h)))
    on_tails f (inr (inr h)) = inr (inr (inr (sym f, h)))

-- ---- two words that begin with the same letters

pub before_behind : (u v w : List ℤ) (x y : ℤ) → rank x < rank y → IsWordBefore (u ++ (x ∷ v)) (u ++ (y ∷ w))
before_behind [] v w x y h = inl h
before_behind (z ∷ u) v w x y h = inr (refl, before_behind u v w x y h)

-- the first i letters are the same
pub record SameUpTo (v w : List ℤ) (i : ℕ) : Type 0 where
  pub to : IsWordBefore v w → IsWordBefore (drop i v) (drop i w)
  pub back : IsWordBefore (drop i v) (drop i w) → IsWordBefore v w

pub same_none : (v w : List ℤ) → SameUpTo v w 0
same_none v w = record { to = λ h. h; back = λ h. h }

at_heads : LetterLaws → (v w : List ℤ) (i : ℕ) (x y : ℤ) → i < length v → i < length w → x ≡ get_or v i x
    → y ≡ get_or w i y
    → IsWordBefore (drop i v) (drop i w) ≡ IsWordBefore (x ∷ drop (i + 1) v) (y ∷ drop (i + 1) w)
at_heads letters v w i x y in_v in_w is_x is_y =
    ap (λ (z : List ℤ). IsWordBefore z (drop i w)) (letters.next v i x in_v is_x)
    ∙ ap (λ (z : List ℤ). IsWordBefore (x ∷ drop (i + 1) v) z) (letters.next w i y in_w is_y)

past_same : (v w : List ℤ) (x y : ℤ) → x ≡ y → IsWordBefore (x ∷ v) (y ∷ w) → IsWordBefore v w
past_same v w x y e (inl h) = absurd (omega (arith, ap rank e))
past_same v w x y e (inr h) = h.1

pub same_more : LetterLaws → (v w : List ℤ) (i : ℕ) (x y : ℤ) → SameUpTo v w i → i < length v → length v ≡ length w
    → x ≡ get_or v i x → y ≡ get_or w i y → x ≡ y → SameUpTo v w (i + 1)
same_more letters v w i x y h inside as_long is_x is_y e =
    let heads = at_heads letters v w i x y inside (omega arith) is_x is_y in record {
      to = λ k. past_same _ _ x y e (subst (λ (T : Type 0). T) heads (h.to k));
      back = λ k. h.back (subst (λ (T : Type 0). T) (sym heads) (inr (e, k)));
    }

-- the first letters that differ decide
pub first_other : LetterLaws → (v w : List ℤ) (i : ℕ) (x y : ℤ) → SameUpTo v w i → i < length v → length v ≡ length w
    → x ≡ get_or v i x → y ≡ get_or w i y → x ≢ y
    → (rank x < rank y → IsWordBefore v w) × (IsWordBefore v w → rank x < rank y)
first_other letters v w i x y h inside as_long is_x is_y apart =
    let heads = at_heads letters v w i x y inside (omega arith) is_x is_y in (
      λ less. h.back (subst (λ (T : Type 0). T) (sym heads) (inl less)),
      λ k. decided (subst (λ (T : Type 0). T) heads (h.to k)),
    )
  where
    decided : IsWordBefore (x ∷ drop (i + 1) v) (y ∷ drop (i + 1) w) → rank x < rank y
    decided (inl less) = less
    decided (inr k) = absurd (apart k.0)

pub all_same : (v w : List ℤ) (i : ℕ) → SameUpTo v w i → length v ≤ i → length v ≡ length w → IsWordBefore v w → ⊥
all_same v w i h all as_long k =
    at_ends (drop i v) (drop i w) (omega (arith, length-drop i v)) (omega (arith, length-drop i w)) (h.to k)
  where
    at_ends : (a b : List ℤ) → length a ≡ 0 → length b ≡ 0 → IsWordBefore a b → ⊥
    at_ends [] [] e f k = k
    at_ends [] (y ∷ b) e f k = absurd (omega arith)
    at_ends (x ∷ a) b e f k = absurd (omega arith)
