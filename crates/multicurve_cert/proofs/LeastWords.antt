-- The order of words is total, and among the words that run along one curve there is a least one.
--
-- A word has as many rotations as letters. They are tried place by place, and the least so far is kept; then the least
-- rotation of the word and that of its inverse are compared.
use Rattle.std.proofs.Common.{ℤ, List, [], ◌∷◌, ◌++◌, ◌≡◌, ◌⊎◌, inl, inr, refl, sym, ◌∙◌, ap, subst}
use Rattle.std.proofs.Common.{append_assoc, arith, length}
use Rattle.std.proofs.lemmas.Bool.{cases_order}
use Rattle.std.proofs.lemmas.List.{append-nil}
use Rattle.ideal_tri.specs.LabelLaws.{LabelLaws}
use Rattle.ideal_tri.specs.Words.{inverse_word, IsRotation}
use Rattle.ideal_tri.specs.Curves.{IsSameCurve}
use Rattle.ideal_tri.specs.Vertices.{rank}
use Rattle.multicurve_cert.specs.Cycles.{IsWordBefore, IsBefore}

-- ---- the order

-- the order of words is transitive
word_along : (u v w : List ℤ) → IsWordBefore u v → IsWordBefore v w → IsWordBefore u w
word_along [] [] w h k = absurd h
word_along [] (y ∷ v) [] h k = absurd k
word_along [] (y ∷ v) (z ∷ w) h k = tt
word_along (x ∷ u) [] w h k = absurd h
word_along (x ∷ u) (y ∷ v) [] h k = absurd k
word_along (x ∷ u) (y ∷ v) (z ∷ w) (inl a) (inl b) = inl (omega arith)
word_along (x ∷ u) (y ∷ v) (z ∷ w) (inl a) (inr b) = inl (omega (arith, ap rank b.0))
word_along (x ∷ u) (y ∷ v) (z ∷ w) (inr a) (inl b) = inl (omega (arith, ap rank a.0))
word_along (x ∷ u) (y ∷ v) (z ∷ w) (inr a) (inr b) = inr (a.0 ∙ b.0, word_along u v w a.1 b.1)

-- and total
word_order : LabelLaws → (u v : List ℤ) → (u ≡ v) ⊎ (IsWordBefore u v ⊎ IsWordBefore v u)
word_order labels [] [] = inl refl
word_order labels [] (y ∷ v) = inr (inl tt)
word_order labels (x ∷ u) [] = inr (inr tt)
word_order labels (x ∷ u) (y ∷ v) =
    elim (cases_order (rank x) (rank y)) [
      | inr (inl low) ↦ inr (inl (inl low))
      | inr (inr high) ↦ inr (inr (inl high))
      | inl e ↦
          (let same : x ≡ y = labels.order.one x y e in
          elim (word_order labels u v) [
            | inl f ↦ inl (ap (λ (z : ℤ). z ∷ u) same ∙ ap (λ (w : List ℤ). y ∷ w) f)
            | inr (inl before) ↦ inr (inl (inr (same, before)))
            | inr (inr behind) ↦ inr (inr (inr (sym same, behind)))
          ])
    ]

before_along : (u v w : List ℤ) → IsBefore u v → IsBefore v w → IsBefore u w
before_along u v w (inl a) (inl b) = inl (omega arith)
before_along u v w (inl a) (inr b) = inl (let e = b.0 in omega arith)
before_along u v w (inr a) (inl b) = inl (let e = a.0 in omega arith)
before_along u v w (inr a) (inr b) = inr (a.0 ∙ b.0, word_along u v w a.1 b.1)

-- ---- the word itself, or one before it

abbrev pub IsUpTo : List ℤ → List ℤ → Type 0
IsUpTo u v = (u ≡ v) ⊎ IsBefore u v

upto_along : (u v w : List ℤ) → IsUpTo u v → IsUpTo v w → IsUpTo u w
upto_along u v w (inl e) k = subst (λ (z : List ℤ). IsUpTo z w) (sym e) k
upto_along u v w (inr h) (inl e) = inr (subst (IsBefore u) e h)
upto_along u v w (inr h) (inr k) = inr (before_along u v w h k)

upto_order : LabelLaws → (u v : List ℤ) → IsUpTo u v ⊎ IsUpTo v u
upto_order labels u v =
    elim (cases_order (length u) (length v)) [
      | inr (inl short) ↦ inl (inr (inl short))
      | inr (inr long) ↦ inr (inr (inl long))
      | inl e ↦
          elim (word_order labels u v) [
            | inl same ↦ inl (inl same)
            | inr (inl before) ↦ inl (inr (inr (e, before)))
            | inr (inr behind) ↦ inr (inr (inr (sym e, behind)))
          ]
    ]

-- ---- the least rotation

-- a rotation of front ++ rest that is up to each rotation that begins within rest, or at its end
record LeastFrom (front rest : List ℤ) : Type 0 where
  word : List ℤ
  rotation : IsRotation (front ++ rest) word
  least : (a b : List ℤ) → rest ≡ a ++ b → IsUpTo word (b ++ (front ++ a))

-- such a rotation exists
least_from : LabelLaws → (front rest : List ℤ) → LeastFrom front rest
least_from labels front [] = record {
  word = front;
  rotation = ([], front, append-nil front, sym (append-nil front));
  least = ends;
}
  where
    ends : (a b : List ℤ) → [] ≡ a ++ b → IsUpTo front (b ++ (front ++ a))
    ends [] [] e = inl (sym (append-nil front))
    ends [] (y ∷ b) e = absurd (cc)
    ends (x ∷ a) b e = absurd (cc)
least_from labels front (x ∷ rest) = choose (least_from labels (front ++ (x ∷ [])) rest)
  where
    here : List ℤ
    here = (x ∷ rest) ++ front

    begun_here : IsRotation (front ++ (x ∷ rest)) here
    begun_here = (front, x ∷ rest, refl, refl)

    choose : LeastFrom (front ++ (x ∷ [])) rest → LeastFrom front (x ∷ rest)
    choose l =
        elim (upto_order labels here l.word) [
          | inl low ↦ record { word = here; rotation = begun_here; least = each here (inl refl) low }
          | inr high ↦
              record {
                word = l.word;
                rotation =
                    subst (λ (z : List ℤ). IsRotation z l.word) (append_assoc front (x ∷ []) rest) l.rotation;
                least = each l.word high (inl refl);
              }
        ]
      where
        each : (w : List ℤ) → IsUpTo w here → IsUpTo w l.word → (a b : List ℤ) → x ∷ rest ≡ a ++ b
            → IsUpTo w (b ++ (front ++ a))
        each w low high [] b e =
            subst (IsUpTo w)
            (ap (λ (z : List ℤ). z ++ front) e ∙ ap (λ (z : List ℤ). b ++ z) (sym (append-nil front))) low
        each w low high (y ∷ a) b e =
            let head : x ≡ y = cc in
            let tail : rest ≡ a ++ b = cc in
            upto_along w l.word (b ++ (front ++ (y ∷ a))) high
            (subst (IsUpTo l.word)
            (ap (λ (z : List ℤ). b ++ z) (append_assoc front (x ∷ []) a
            ∙ ap (λ (z : ℤ). front ++ (z ∷ a)) head)) (l.least a b tail))

-- it is up to each rotation of the whole
least_rotation : (w : List ℤ) (l : LeastFrom [] w) (v : List ℤ) → IsRotation w v → IsUpTo l.word v
least_rotation w l v (a, b, e, f) = subst (IsUpTo l.word) (sym f) (l.least a b e)

-- ---- the least word of a curve

-- a word of the curve of w that is up to each of them
pub record LeastOf (w : List ℤ) : Type 0 where
  pub word : List ℤ
  pub same : IsSameCurve w word
  pub least : (v : List ℤ) → IsSameCurve w v → IsUpTo word v

pub least_word : LabelLaws → (w : List ℤ) → LeastOf w
least_word labels w = choose (least_from labels [] w) (least_from labels [] (inverse_word w))
  where
    choose : LeastFrom [] w → LeastFrom [] (inverse_word w) → LeastOf w
    choose l m =
        elim (upto_order labels l.word m.word) [
          | inl low ↦ record { word = l.word; same = inl l.rotation; least = each l.word (inl refl) low }
          | inr high ↦ record { word = m.word; same = inr m.rotation; least = each m.word high (inl refl) }
        ]
      where
        each : (u : List ℤ) → IsUpTo u l.word → IsUpTo u m.word → (v : List ℤ) → IsSameCurve w v → IsUpTo u v
        each u low high v (inl r) = upto_along u l.word v low (least_rotation w l v r)
        each u low high v (inr r) = upto_along u m.word v high (least_rotation (inverse_word w) m v r)
