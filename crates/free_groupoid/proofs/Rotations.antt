-- When one word is a rotation of another: it begins at some place of it.
use Rattle.std.proofs.Common.{ℕ, ℤ, List, [], ◌∷◌, ◌++◌, ◌≡◌, ◌+◌, ◌-◌, ◌<◌, refl, sym, ◌∙◌, ap, subst, arith, length}
use Rattle.std.proofs.Common.{take, drop, length-append}
use Rattle.std.proofs.lemmas.List.{append-nil, take-append-drop, take_at, drop_at, take_all, drop_all, take_rest}
use Rattle.ideal_tri.specs.Words.{IsRotation}

-- w is v, begun at place j
pub record BeginsAt (v w : List ℤ) (j : ℕ) : Type 0 where
  pub front : drop j v ≡ take (length v - j) w
  pub back : take j v ≡ drop (length v - j) w

pub rotation_from_place : (v w : List ℤ) (j : ℕ) → BeginsAt v w j → IsRotation v w
rotation_from_place v w j h = (
  take j v,
  drop j v,
  sym (take-append-drop j v),
  sym (take-append-drop (length v - j) w) ∙ ap (λ (z : List ℤ). z ++ drop (length v - j) w) (sym h.front)
      ∙ ap (λ (z : List ℤ). drop j v ++ z) (sym h.back),
)

place_of : (p q : List ℤ) → BeginsAt (p ++ q) (q ++ p) (length p)
place_of p q =
    let rest : length q ≡ length (p ++ q) - length p = omega (arith, length-append p q) in
    record {
      front = drop_at p q (length p) refl ∙ sym (take_at q p (length (p ++ q) - length p) rest);
      back = take_at p q (length p) refl ∙ sym (drop_at q p (length (p ++ q) - length p) rest);
    }

at_zero : (v : List ℤ) → BeginsAt v v 0
at_zero v = record {
  front = sym (take_all (length v - 0) v (omega arith));
  back = sym (drop_all (length v - 0) v (omega arith));
}

-- a rotation of a word that is not empty begins at some place in it
pub place_of_rotation : (v w : List ℤ) → IsRotation v w → 0 < length v → (j : ℕ) × (j < length v) × BeginsAt v w j
place_of_rotation v w (p, [], v_is, w_is) some =
    (0, some, subst (λ (z : List ℤ). BeginsAt v z 0) (v_is ∙ append-nil p ∙ sym w_is) (at_zero v))
place_of_rotation v w (p, (x ∷ xs), v_is, w_is) some =
    let long : length v ≡ length p + length (x ∷ xs) = ap length v_is ∙ length-append p (x ∷ xs) in (
      length p,
      omega arith,
      subst (λ (z : List ℤ). BeginsAt z w (length p)) (sym v_is)
          (subst (λ (z : List ℤ). BeginsAt (p ++ (x ∷ xs)) z (length p)) (sym w_is) (place_of p (x ∷ xs))),
    )

-- the rotations of the empty word
pub rotation_of_empty : (v w : List ℤ) → length v ≡ 0 → length w ≡ length v → IsRotation v w
rotation_of_empty [] [] e f = ([], [], refl, refl)
rotation_of_empty [] (y ∷ ys) e f = absurd (omega arith)
rotation_of_empty (x ∷ xs) w e f = absurd (omega arith)

pub length_of_rotation : (v w : List ℤ) → IsRotation v w → length w ≡ length v
length_of_rotation v w r = let (p, q, v_is, w_is) = r in
    omega (arith, ap length v_is, ap length w_is, length-append p q, length-append q p)

-- ---- the places as the code reads them: `v[j..] == w[..n - j]` and `v[..j] == w[n - j..]`

pub front_as_read : (v w : List ℤ) (j : ℕ) → BeginsAt v w j → take (length v - j) (drop j v) ≡ take (length v - j) w
front_as_read v w j h = take_rest v j ∙ h.front

pub back_as_read : (v w : List ℤ) (j : ℕ) → BeginsAt v w j → take j v
    ≡ take (length w - (length v - j)) (drop (length v - j) w)
back_as_read v w j h = h.back ∙ sym (take_rest w (length v - j))

pub place_from_reads : (v w : List ℤ) (j : ℕ) → take (length v - j) (drop j v) ≡ take (length v - j) w
    → take j v ≡ take (length w - (length v - j)) (drop (length v - j) w) → BeginsAt v w j
place_from_reads v w j e f = record { front = sym (take_rest v j) ∙ e; back = f ∙ take_rest w (length v - j) }
